use Rattle.std.proofs.Common.{take}
use Rattle.folder.specs.Calls.{IsDone}
use Rattle.folder.specs.Held.{in_turn, removed}
use Rattle.folder.specs.Tied.Steps.{IsOnTheWay}
use Rattle.folder.proofs.Runs.{Ran}
use Rattle.folder.proofs.repair.remove_names.Given as goal

abbrev pub invariant-loop-index : goal.invariant-loop-index
invariant-loop-index g l = Ran g.F.Folder.held g.F.Folder.may_leave g.F.Folder.moment g.F.Folder.left_since g.F.Folder.faults (IsDone (in_turn removed (take l.index l.going))) (IsOnTheWay removed l.going) l.initial.folder l.folder
