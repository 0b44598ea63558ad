use Rattle.std.proofs.Common.{arith}
use Rattle.std.proofs.lemmas.Grind.{common_steps}
use Rattle.markers.proofs.marker_token.quoted_text.Goals as goal

pub loop-place-preserved : goal.loop-place-preserved
loop-place-preserved c = grind (arith, common_steps)

pub returns : goal.returns
returns c = grind (arith, common_steps)

pub returns-then-not-is_quotable : goal.returns-then-not-is_quotable
returns-then-not-is_quotable c = grind (arith, common_steps)

pub returns-then-rest-place : goal.returns-then-rest-place
returns-then-rest-place c = grind (arith, common_steps)
