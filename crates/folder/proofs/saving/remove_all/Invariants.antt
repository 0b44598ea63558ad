use Rattle.std.proofs.Common.{take, true}
use Rattle.folder.specs.Calls.{IsDone}
use Rattle.folder.specs.Held.{in_turn, removed}
use Rattle.folder.specs.Tied.Steps.{IsOnTheWayOrBeside}
use Rattle.folder.proofs.Runs.{Ran}
use Rattle.folder.proofs.saving.remove_all.Given as goal

abbrev pub invariant-loop-index : goal.invariant-loop-index
invariant-loop-index g l =
    Ran g.F.Folder.held g.F.Folder.may_leave g.F.Folder.moment g.F.Folder.left_since g.F.Folder.faults (IsDone (in_turn removed (take l.index l.going))) (IsOnTheWayOrBeside l.files true removed l.going) l.initial.folder l.folder
