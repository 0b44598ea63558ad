use Rattle.std.proofs.Common.{◌≡◌, ◌≤◌, drop}
use Rattle.markers.specs.MarkerDepth.{is_too_deep}
use Rattle.markers.specs.Tied.MarkerTokens.{is_deep_from}
use Rattle.markers.proofs.marker_token.is_too_deep.Given as goal

abbrev pub invariant-loop-byte : goal.invariant-loop-byte
invariant-loop-byte l = record {
  begun : l.begun ≤ l.byte-index;
  ended : l.ended ≤ l.byte-index;
  deep : is_deep_from l.quote l.begun l.ended (drop l.byte-index l.text) ≡ is_too_deep l.text;
}
