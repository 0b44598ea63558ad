use Rattle.std.proofs.Common.{◌≡◌, map, take}
use Rattle.changes.specs.Changes.{entry_back}
use Rattle.changes.proofs.change.inverse.entries_back.Given as goal

abbrev pub invariant-loop-change : goal.invariant-loop-change
invariant-loop-change l = l.made.items ≡ map entry_back (take l.change-index l.changes)
