use Rattle.std.proofs.Common.{arith}
use Rattle.std.proofs.lemmas.Grind.{common_steps}
use Rattle.edits.proofs.addition.line_number.Goals as goal

pub returns-then-is_on : goal.returns-then-is_on
returns-then-is_on c = grind (arith, common_steps)

pub loop-place-preserved : goal.loop-place-preserved
loop-place-preserved c = grind (arith, common_steps)

pub returns : goal.returns
returns c = grind (arith, common_steps)
