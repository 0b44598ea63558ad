use Rattle.std.proofs.Common.{rules}
use Rattle.changes.proofs.change.ends.place_behind.Goals as goal

pub returns : goal.returns
returns c = search rules
