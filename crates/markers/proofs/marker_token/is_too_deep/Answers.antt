use Rattle.std.proofs.Common.{arith, sym}
use Rattle.std.proofs.lemmas.Grind.{common_steps}
use Rattle.markers.proofs.DeepBeginnings.{deep-is_scanned}
use Rattle.markers.proofs.marker_token.is_too_deep.Goals as goal

pub loop-byte-init : goal.loop-byte-init
loop-byte-init c = record { begun = omega arith; ended = omega arith; deep = sym (deep-is_scanned c.args.text.now) }

pub returns-then-begun-ended : goal.returns-then-begun-ended
returns-then-begun-ended c = grind (arith, common_steps)

pub loop-byte-preserved : goal.loop-byte-preserved
loop-byte-preserved c = grind (arith, common_steps)
