use Rattle.std.proofs.Common.{◌≡◌, take, true}
use Rattle.pylock.specs.Locks.{are_entries}
use Rattle.states.specs.Locks.{versions_of}
use Rattle.states.proofs.target.versions_of.Given as goal

abbrev pub invariant-loop-entry : goal.invariant-loop-entry
invariant-loop-entry l = record {
  made : l.versions.entries ≡ versions_of (take l.entry-index l.entries);
  rises : are_entries l.entries ≡ true;
}
