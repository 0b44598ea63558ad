use Rattle.std.proofs.Common.{arith}
use Rattle.std.proofs.lemmas.Grind.{common_steps}
use Rattle.inputs.proofs.pinned_version.first_no_pin.Goals as goal

pub returns-then-is_no_pin : goal.returns-then-is_no_pin
returns-then-is_no_pin c = grind (arith, common_steps)

pub loop-place-preserved : goal.loop-place-preserved
loop-place-preserved c = grind (arith, common_steps)

pub returns : goal.returns
returns c = grind (arith, common_steps)
