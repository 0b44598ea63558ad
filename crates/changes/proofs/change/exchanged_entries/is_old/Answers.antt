use Rattle.std.proofs.Common.{rules}
use Rattle.changes.proofs.change.exchanged_entries.is_old.Goals as goal

pub returns : goal.returns
returns c = search rules
