use Rattle.std.proofs.Common.{arith}
use Rattle.std.proofs.lemmas.Grind.{common_steps}
use Rattle.learning_search.proofs.decisions.has.Goals as goal

pub loop-other-preserved : goal.loop-other-preserved
loop-other-preserved c = grind (arith, common_steps)

pub returns-clause-absent : goal.returns-clause-absent
returns-clause-absent c = grind (arith, common_steps)
