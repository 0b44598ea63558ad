use Rattle.std.proofs.Common.{arith}
use Rattle.std.proofs.lemmas.Grind.{common_steps}
use Rattle.markers.specs.Tied.MarkerTokens.{token_at}
use Rattle.markers.proofs.marker_token.token_at.Goals as goal

pub returns : goal.returns
unfolding token_at
returns c = grind (arith, common_steps)

pub returns-then-is_quote : goal.returns-then-is_quote
unfolding token_at
returns-then-is_quote c = grind (arith, common_steps)
