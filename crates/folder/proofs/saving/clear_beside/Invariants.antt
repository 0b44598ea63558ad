use Rattle.folder.specs.Held.{IsSameBut}
use Rattle.folder.specs.Saves.{names_of}
use Rattle.folder.proofs.Runs.{Ran}
use Rattle.folder.proofs.saving.clear_beside.Given as goal

abbrev pub invariant-loop-index : goal.invariant-loop-index
invariant-loop-index g l =
    Ran g.F.Folder.held g.F.Folder.may_leave g.F.Folder.moment g.F.Folder.left_since g.F.Folder.faults (IsSameBut (names_of l.files)) (IsSameBut (names_of l.files)) l.initial.folder l.folder
