-- Markers (PEP 508, "Environment Markers").
use Rattle.std.specs.Prelude.{ℕ, List, Result, Err, ok_or, if◌then◌else◌}
use Rattle.markers.specs.Tied.MarkerReading.{tree_of}
use Rattle.markers.specs.MarkerDepth.{is_too_deep}
use Rattle.markers.specs.declared.fault.Cause.{Cause}
use Rattle.markers.specs.declared.fault.Cause.TheVariants.{BadMarker, MarkerTooDeep}
pub use Rattle.markers.specs.MarkerHolds.{holds}
pub use Rattle.markers.specs.MarkerTree.{Tree}

-- the marker that a text is, or why it is refused: too many open parentheses come before any other fault; what
-- `tree_of` reads is tied to `SpellsMarker` by the law `a_text_reads_as_the_marker_that_it_spells`
unfoldable pub marker_of : List ℕ → Result Tree Cause
marker_of text = if is_too_deep text then Err MarkerTooDeep else ok_or (tree_of text) BadMarker
