use Rattle.std.proofs.Common.{rules}
use Rattle.markers.proofs.marker_atom.CachedRelation.holds.Goals as goal

pub returns-in-In : goal.returns-in-In
returns-in-In c = search rules
