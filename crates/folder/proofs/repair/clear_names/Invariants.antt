use Rattle.folder.specs.Held.{IsCleared}
use Rattle.folder.proofs.Runs.{Ran}
use Rattle.folder.proofs.repair.clear_names.Given as goal

abbrev pub invariant-loop-index : goal.invariant-loop-index
invariant-loop-index g l = Ran g.F.Folder.held g.F.Folder.may_leave g.F.Folder.moment g.F.Folder.left_since g.F.Folder.faults (IsCleared l.names) (IsCleared l.names) l.initial.folder l.folder
