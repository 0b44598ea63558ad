use Rattle.std.proofs.Common.{◌≡◌, ◌++◌, drop, take}
use Rattle.markers.specs.Tied.MarkerTokens.{word_of}
use Rattle.markers.proofs.marker_token.word_of.Given as goal

abbrev pub invariant-loop-place : goal.invariant-loop-place
invariant-loop-place l = take l.place l.text ++ word_of (drop l.place l.text) ≡ word_of l.text
