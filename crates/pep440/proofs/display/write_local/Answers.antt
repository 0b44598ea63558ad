use Rattle.std.proofs.Common.{arith}
use Rattle.std.proofs.lemmas.Grind.{common_steps}
use Rattle.pep440.proofs.display.write_local.Goals as goal

pub loop-part-preserved : goal.loop-part-preserved
loop-part-preserved g c = grind (arith, common_steps)

pub returns-after-loop-part : goal.returns-after-loop-part
returns-after-loop-part g c = grind (arith, common_steps)
