use Rattle.std.proofs.Common.{rules}
use Rattle.markers.specs.Marker.{marker_of}
use Rattle.markers.proofs.marker.Marker.read.Goals as goal

pub returns-then-is_too_deep : goal.returns-then-is_too_deep
unfolding marker_of
returns-then-is_too_deep c = search rules
