use Rattle.std.proofs.Common.{arith}
use Rattle.std.proofs.lemmas.Grind.{common_steps}
use Rattle.pep440.proofs.spans.cut_release.Goals as goal

pub returns-then-not-goes_on-clause-release : goal.returns-then-not-goes_on-clause-release
returns-then-not-goes_on-clause-release c = grind (arith, common_steps)

pub returns-then-not-goes_on-clause-rest : goal.returns-then-not-goes_on-clause-rest
returns-then-not-goes_on-clause-rest c = grind (arith, common_steps)

pub loop-i-preserved : goal.loop-i-preserved
loop-i-preserved c = grind (arith, common_steps)

pub returns-clause-release : goal.returns-clause-release
returns-clause-release c = grind (arith, common_steps)

pub returns-clause-rest : goal.returns-clause-rest
returns-clause-rest c = grind (arith, common_steps)
