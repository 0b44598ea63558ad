use Rattle.std.proofs.Common.{◌+◌, length}
use Rattle.changes.proofs.BetweenEntries.{IsMadeTo}
use Rattle.changes.proofs.change.between_entries.entries_between.Given as goal

abbrev pub invariant-names : goal.invariant-names
invariant-names l = IsMadeTo l.target l.fn.old l.fn.new l.old_left l.new_left l.made.items

abbrev pub decreases-names : goal.decreases-names
decreases-names l = length l.old_left + length l.new_left
