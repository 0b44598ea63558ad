use Rattle.std.proofs.Common.{rules}
use Rattle.changes.proofs.change.between_entries.append_change.Goals as goal

pub returns : goal.returns
returns c = search rules
