use Rattle.std.proofs.Common.{rules, arith}
use Rattle.std.proofs.lemmas.Grind.{common_steps}
use Rattle.pep508.proofs.parts.cut_ending.Goals as goal

pub returns-clause-content : goal.returns-clause-content
returns-clause-content c = search rules

pub returns-clause-ending : goal.returns-clause-ending
returns-clause-ending c = grind (arith, common_steps)
