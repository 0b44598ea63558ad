use Rattle.std.proofs.Common.{rules}
use Rattle.pylock.specs.LockOfTable.{entries_in}
use Rattle.pylock.proofs.from_table.entries_at.Goals as goal

pub returns-clause-order : goal.returns-clause-order
returns-clause-order c = search rules

pub returns-clause-entries : goal.returns-clause-entries
unfolding entries_in
returns-clause-entries c = search rules
