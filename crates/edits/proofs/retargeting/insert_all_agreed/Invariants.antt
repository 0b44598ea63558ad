use Rattle.std.proofs.Common.{◌≡◌, drop, fold}
use Rattle.states.specs.Locks.{versions_of}
use Rattle.edits.specs.Pins.{with_agreed}
use Rattle.edits.proofs.retargeting.insert_all_agreed.Given as goal

abbrev pub invariant-loop-entry : goal.invariant-loop-entry
invariant-loop-entry l =
    fold (with_agreed l.targets) l.versions.entries (versions_of (drop l.entry-index l.entries)) ≡ fold (with_agreed l.targets) l.initial.versions.entries (versions_of l.entries)
