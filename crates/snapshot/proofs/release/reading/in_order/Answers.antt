use Rattle.std.proofs.Common.{arith}
use Rattle.std.proofs.lemmas.Grind.{common_steps}
use Rattle.snapshot.proofs.release.reading.in_order.Goals as goal

pub loop-release-preserved : goal.loop-release-preserved
loop-release-preserved c = grind (arith, common_steps)
