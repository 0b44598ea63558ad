use Rattle.std.proofs.Common.{take}
use Rattle.folder.specs.Calls.{IsDone}
use Rattle.folder.specs.Held.{IsSameBut, in_turn}
use Rattle.folder.specs.Saves.{names_of}
use Rattle.folder.specs.Tied.Steps.{stage_file}
use Rattle.folder.proofs.Runs.{Ran}
use Rattle.folder.proofs.saving.stage_all.Given as goal

abbrev pub invariant-loop-index : goal.invariant-loop-index
invariant-loop-index g l =
    Ran g.F.Folder.held g.F.Folder.may_leave g.F.Folder.moment g.F.Folder.left_since g.F.Folder.faults (IsDone (in_turn stage_file (take l.index l.files))) (IsSameBut (names_of l.files)) l.initial.folder l.folder
