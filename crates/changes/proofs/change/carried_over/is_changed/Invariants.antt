use Rattle.std.proofs.Common.{◌≢◌, Contains, take}
use Rattle.changes.specs.declared.change.parts.EntryChange.{EntryChange}
use Rattle.changes.proofs.change.carried_over.is_changed.Given as goal

abbrev pub invariant-loop-change : goal.invariant-loop-change
invariant-loop-change l = (c : EntryChange) → Contains (take l.change-index l.changes) c → c.name ≢ l.name
