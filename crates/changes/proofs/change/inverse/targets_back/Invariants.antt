use Rattle.std.proofs.Common.{◌≡◌, map, take}
use Rattle.changes.specs.Changes.{target_back}
use Rattle.changes.proofs.change.inverse.targets_back.Given as goal

abbrev pub invariant-loop-change : goal.invariant-loop-change
invariant-loop-change l = l.made.items ≡ map target_back (take l.change-index l.changes)
