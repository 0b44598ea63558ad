use Rattle.std.proofs.Common.{take, drop, IfSome}
use Rattle.folder.specs.Calls.{IsDone}
use Rattle.folder.specs.Held.{in_turn}
use Rattle.folder.specs.Tied.Steps.{AreStaged, IsOnTheWayOrBeside, rename_file}
use Rattle.folder.proofs.Runs.{Ran}
use Rattle.folder.proofs.saving.rename_all.Given as goal

abbrev pub invariant-loop-index : goal.invariant-loop-index
invariant-loop-index g l = record {
  ran : Ran g.F.Folder.held g.F.Folder.may_leave g.F.Folder.moment g.F.Folder.left_since g.F.Folder.faults (IsDone (in_turn rename_file (take l.index l.files))) (IsOnTheWayOrBeside l.files l.is_untouched rename_file l.files) l.initial.folder l.folder;
  staged : IfSome (g.F.Folder.held l.folder) (AreStaged (drop l.index l.files));
}
