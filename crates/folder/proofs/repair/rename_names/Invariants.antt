use Rattle.std.proofs.Common.{take, drop, IfSome}
use Rattle.folder.specs.Calls.{IsDone}
use Rattle.folder.specs.Held.{in_turn, renamed}
use Rattle.folder.specs.Repairs.{AreBeside}
use Rattle.folder.specs.Tied.Steps.{IsOnTheWay}
use Rattle.folder.proofs.Runs.{Ran}
use Rattle.folder.proofs.repair.rename_names.Given as goal

abbrev pub invariant-loop-index : goal.invariant-loop-index
invariant-loop-index g l = record {
  ran : Ran g.F.Folder.held g.F.Folder.may_leave g.F.Folder.moment g.F.Folder.left_since g.F.Folder.faults (IsDone (in_turn renamed (take l.index l.names))) (IsOnTheWay renamed l.names) l.initial.folder l.folder;
  beside : IfSome (g.F.Folder.held l.folder) (AreBeside (drop l.index l.names));
}
