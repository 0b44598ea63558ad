use Rattle.std.proofs.Common.{◌≡◌, ◌++◌, drop, take}
use Rattle.std.specs.Option.{option_map}
use Rattle.markers.specs.Tied.MarkerTokens.{quoted_text}
use Rattle.markers.proofs.marker_token.quoted_text.Given as goal

abbrev pub invariant-loop-place : goal.invariant-loop-place
invariant-loop-place l =
    option_map (λ text. take l.place l.rest ++ text) (quoted_text l.quote (drop l.place l.rest)) ≡ quoted_text l.quote l.rest
