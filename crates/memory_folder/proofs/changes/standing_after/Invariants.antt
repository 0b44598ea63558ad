use Rattle.std.proofs.Common.{◌≡◌, take}
use Rattle.memory_folder.specs.Changes.{at_name, held_after}
use Rattle.memory_folder.proofs.changes.standing_after.Given as goal

abbrev pub invariant-loop-index : goal.invariant-loop-index
invariant-loop-index l = l.standing ≡ at_name l.name (held_after (take l.index l.changes))
