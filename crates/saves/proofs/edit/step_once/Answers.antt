use Rattle.std.proofs.Common.{false}
use Rattle.std.specs.Io.KnownBytes.{Appends}
use Rattle.commands.specs.Replies.{is_accepted}
use Rattle.files.proofs.FolderRuns.{on_ok_map}
use Rattle.journal.specs.Commands.{asked_of}
use Rattle.saves.specs.Called.{IsFaultOfSaving, IsSavedBy, StepIsDone}
use Rattle.saves.proofs.CallRuns.{called, calling, not_ok, only_repaired, or_else, stopped_behind, then_opened}
use Rattle.saves.proofs.edit.step_once.Goals as goal

pub read_to_save-requires : goal.read_to_save-requires
read_to_save-requires g c = c.requires

-- the files aren't read
pub returns-in_err-files-clause-called : goal.returns-in_err-files-clause-called
returns-in_err-files-clause-called g c = not_ok c.from_residual.result _ _ c.from_residual.ensures.1

pub returns-in_err-files-clause-any_moment : goal.returns-in_err-files-clause-any_moment
returns-in_err-files-clause-any_moment g c =
    only_repaired g.F.Folder.held g.F.Folder.may_leave g.F.Folder.moment g.F.Folder.left_since g.F.Folder.faults (g.F.HistoryFolder.may_fail c.args.folder.now) (IsSavedBy is_accepted (StepIsDone (asked_of c.args.command.now))) c.args.folder.now c.read_to_save.new.folder c.read_to_save.ensures.repaired

pub returns-in_err-files-clause-nothing_saved : goal.returns-in_err-files-clause-nothing_saved
returns-in_err-files-clause-nothing_saved g c = or_else c.from_residual.result IsFaultOfSaving _ c.read_to_save.ensures.repaired

pub open_to_save-requires-clause-settled : goal.open_to_save-requires-clause-settled
open_to_save-requires-clause-settled g c = c.in_ok-files.ensures.settled

pub open_to_save-requires-clause-places : goal.open_to_save-requires-clause-places
open_to_save-requires-clause-places g c = c.in_ok-files.ensures.places

pub open_to_save-requires-clause-named : goal.open_to_save-requires-clause-named
open_to_save-requires-clause-named g c = c.in_ok-files.ensures.named

-- they aren't opened
pub returns-in_err-files-2-clause-called : goal.returns-in_err-files-2-clause-called
returns-in_err-files-2-clause-called g c = not_ok c.from_residual-in_err-files-2.result _ _ c.from_residual-in_err-files-2.ensures.1

pub returns-in_err-files-2-clause-any_moment : goal.returns-in_err-files-2-clause-any_moment
returns-in_err-files-2-clause-any_moment g c =
    only_repaired g.F.Folder.held g.F.Folder.may_leave g.F.Folder.moment g.F.Folder.left_since g.F.Folder.faults (g.F.HistoryFolder.may_fail c.args.folder.now) (IsSavedBy is_accepted (StepIsDone (asked_of c.args.command.now))) c.args.folder.now c.open_to_save.new.folder
    (then_opened g.F.Folder.held g.F.Folder.may_leave g.F.Folder.moment g.F.Folder.left_since g.F.Folder.faults (g.F.HistoryFolder.may_fail c.args.folder.now) c.args.folder.now c.read_to_save.new.folder c.open_to_save.new.folder c.read_to_save.ensures.repaired c.open_to_save.ensures.repaired)

pub returns-in_err-files-2-clause-nothing_saved : goal.returns-in_err-files-2-clause-nothing_saved
returns-in_err-files-2-clause-nothing_saved g c =
    or_else c.from_residual-in_err-files-2.result IsFaultOfSaving _
    (then_opened g.F.Folder.held g.F.Folder.may_leave g.F.Folder.moment g.F.Folder.left_since g.F.Folder.faults (g.F.HistoryFolder.may_fail c.args.folder.now) c.args.folder.now c.read_to_save.new.folder c.open_to_save.new.folder c.read_to_save.ensures.repaired c.open_to_save.ensures.repaired)

pub apply-requires : goal.apply-requires
apply-requires g c = c.in_ok-files-2.ensures.places

pub returns-clause-called : goal.returns-clause-called
returns-clause-called g c =
    on_ok_map c.apply.result _ _ c.apply.ensures.done (λ applied. called g.F.Folder.held g.F.Folder.may_leave g.F.Folder.moment g.F.Folder.left_since g.F.Folder.faults (g.F.HistoryFolder.may_fail c.args.folder.now) false (asked_of c.args.command.now) c.in_ok-files-2.files c.in_ok-files-2.session.past (StepIsDone (asked_of c.args.command.now))
    (λ after reply goes. (c.in_ok-files-2.session, c.in_ok-files-2.ensures.stand, goes))
    (Appends (g.O.Write.contents c.args.call.now.output) (g.O.Write.contents c.apply.new.call.output)) c.args.folder.now c.open_to_save.new.folder c.apply.new.folder
    (then_opened g.F.Folder.held g.F.Folder.may_leave g.F.Folder.moment g.F.Folder.left_since g.F.Folder.faults (g.F.HistoryFolder.may_fail c.args.folder.now) c.args.folder.now c.read_to_save.new.folder c.open_to_save.new.folder c.read_to_save.ensures.repaired c.open_to_save.ensures.repaired) c.in_ok-files-2.ensures.places applied)

pub returns-clause-any_moment : goal.returns-clause-any_moment
returns-clause-any_moment g c =
    calling g.F.Folder.held g.F.Folder.may_leave g.F.Folder.moment g.F.Folder.left_since g.F.Folder.faults (g.F.HistoryFolder.may_fail c.args.folder.now) false (asked_of c.args.command.now) c.in_ok-files-2.files c.in_ok-files-2.session.past (StepIsDone (asked_of c.args.command.now))
    (λ after reply goes. (c.in_ok-files-2.session, c.in_ok-files-2.ensures.stand, goes)) c.args.folder.now c.open_to_save.new.folder c.apply.new.folder
    (then_opened g.F.Folder.held g.F.Folder.may_leave g.F.Folder.moment g.F.Folder.left_since g.F.Folder.faults (g.F.HistoryFolder.may_fail c.args.folder.now) c.args.folder.now c.read_to_save.new.folder c.open_to_save.new.folder c.read_to_save.ensures.repaired c.open_to_save.ensures.repaired) c.in_ok-files-2.ensures.places c.apply.ensures.any_moment

pub returns-clause-nothing_saved : goal.returns-clause-nothing_saved
returns-clause-nothing_saved g c =
    stopped_behind g.F.Folder.held g.F.Folder.may_leave g.F.Folder.moment g.F.Folder.left_since g.F.Folder.faults (g.F.HistoryFolder.may_fail c.args.folder.now) c.apply.result c.args.folder.now c.open_to_save.new.folder c.apply.new.folder
    (then_opened g.F.Folder.held g.F.Folder.may_leave g.F.Folder.moment g.F.Folder.left_since g.F.Folder.faults (g.F.HistoryFolder.may_fail c.args.folder.now) c.args.folder.now c.read_to_save.new.folder c.open_to_save.new.folder c.read_to_save.ensures.repaired c.open_to_save.ensures.repaired) c.apply.ensures.nothing_saved
