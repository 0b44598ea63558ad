use Rattle.std.proofs.Common.{rules}
use Rattle.markers.proofs.name.push_normal.Goals as goal

pub returns : goal.returns
returns c = search rules
