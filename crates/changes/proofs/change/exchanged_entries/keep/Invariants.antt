use Rattle.std.proofs.Common.{◌≡◌, ◌++◌, take}
use Rattle.changes.proofs.change.exchanged_entries.keep.Given as goal

abbrev pub invariant-loop-entry : goal.invariant-loop-entry
invariant-loop-entry l = l.after.items ≡ l.initial.after.items ++ take l.entry-index l.entries
