use Rattle.std.proofs.Common.{take}
use Rattle.std.specs.List.{AllZip}
use Rattle.changes.specs.Changes.{ChangesTarget}
use Rattle.changes.proofs.change.outcome.all_moved.Given as goal

abbrev pub invariant-loop-target : goal.invariant-loop-target
invariant-loop-target l = AllZip (ChangesTarget l.change) (take l.target-index l.targets) l.made.items
