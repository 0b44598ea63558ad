use Rattle.std.proofs.Common.{◌∙◌, inl}
use Rattle.std.specs.Io.KnownBytes.{Appends}
use Rattle.commands.specs.Replies.{is_accepted}
use Rattle.files.proofs.FolderRuns.{if_err}
use Rattle.saves.specs.Called.{ForgetIsDone, IsFaultOfSaving, IsSavedBy}
use Rattle.saves.proofs.CallRuns.{answered, answering, not_ok, only_repaired, or_else, then_opened}
use Rattle.saves.proofs.forget.forget_once.Goals as goal

pub read_to_save-requires : goal.read_to_save-requires
read_to_save-requires g c = c.requires

-- the files aren't read
pub returns-in_err-files-clause-called : goal.returns-in_err-files-clause-called
returns-in_err-files-clause-called g c = not_ok c.from_residual.result _ _ c.from_residual.ensures.1

pub returns-in_err-files-clause-any_moment : goal.returns-in_err-files-clause-any_moment
returns-in_err-files-clause-any_moment g c =
    only_repaired g.F.Folder.held g.F.Folder.may_leave g.F.Folder.moment g.F.Folder.left_since g.F.Folder.faults (g.F.HistoryFolder.may_fail c.args.folder.now) (IsSavedBy is_accepted (ForgetIsDone c.args.beginning)) c.args.folder.now c.read_to_save.new.folder c.read_to_save.ensures.repaired

pub returns-in_err-files-clause-nothing_saved : goal.returns-in_err-files-clause-nothing_saved
returns-in_err-files-clause-nothing_saved g c = or_else c.from_residual.result IsFaultOfSaving _ c.read_to_save.ensures.repaired

pub open_to_save-requires-clause-settled : goal.open_to_save-requires-clause-settled
open_to_save-requires-clause-settled g c = c.in_ok-files.ensures.settled

pub open_to_save-requires-clause-places : goal.open_to_save-requires-clause-places
open_to_save-requires-clause-places g c = c.in_ok-files.ensures.places

pub open_to_save-requires-clause-named : goal.open_to_save-requires-clause-named
open_to_save-requires-clause-named g c = c.in_ok-files.ensures.named

-- they aren't opened
pub returns-in_err-files-2-clause-called : goal.returns-in_err-files-2-clause-called
returns-in_err-files-2-clause-called g c = not_ok c.from_residual-in_err-files-2.result _ _ c.from_residual-in_err-files-2.ensures.1

pub returns-in_err-files-2-clause-any_moment : goal.returns-in_err-files-2-clause-any_moment
returns-in_err-files-2-clause-any_moment g c =
    only_repaired g.F.Folder.held g.F.Folder.may_leave g.F.Folder.moment g.F.Folder.left_since g.F.Folder.faults (g.F.HistoryFolder.may_fail c.args.folder.now) (IsSavedBy is_accepted (ForgetIsDone c.args.beginning)) c.args.folder.now c.open_to_save.new.folder
    (then_opened g.F.Folder.held g.F.Folder.may_leave g.F.Folder.moment g.F.Folder.left_since g.F.Folder.faults (g.F.HistoryFolder.may_fail c.args.folder.now) c.args.folder.now c.read_to_save.new.folder c.open_to_save.new.folder c.read_to_save.ensures.repaired c.open_to_save.ensures.repaired)

pub returns-in_err-files-2-clause-nothing_saved : goal.returns-in_err-files-2-clause-nothing_saved
returns-in_err-files-2-clause-nothing_saved g c =
    or_else c.from_residual-in_err-files-2.result IsFaultOfSaving _
    (then_opened g.F.Folder.held g.F.Folder.may_leave g.F.Folder.moment g.F.Folder.left_since g.F.Folder.faults (g.F.HistoryFolder.may_fail c.args.folder.now) c.args.folder.now c.read_to_save.new.folder c.open_to_save.new.folder c.read_to_save.ensures.repaired c.open_to_save.ensures.repaired)

-- there is no memory for the reply
pub returns-in_err-text-clause-called : goal.returns-in_err-text-clause-called
returns-in_err-text-clause-called g c = not_ok c.from_residual-in_err-text.result _ _ c.from_residual-in_err-text.ensures.1

pub returns-in_err-text-clause-any_moment : goal.returns-in_err-text-clause-any_moment
returns-in_err-text-clause-any_moment g c =
    only_repaired g.F.Folder.held g.F.Folder.may_leave g.F.Folder.moment g.F.Folder.left_since g.F.Folder.faults (g.F.HistoryFolder.may_fail c.args.folder.now) (IsSavedBy is_accepted (ForgetIsDone c.args.beginning)) c.args.folder.now c.open_to_save.new.folder
    (then_opened g.F.Folder.held g.F.Folder.may_leave g.F.Folder.moment g.F.Folder.left_since g.F.Folder.faults (g.F.HistoryFolder.may_fail c.args.folder.now) c.args.folder.now c.read_to_save.new.folder c.open_to_save.new.folder c.read_to_save.ensures.repaired c.open_to_save.ensures.repaired)

pub returns-in_err-text-clause-nothing_saved : goal.returns-in_err-text-clause-nothing_saved
returns-in_err-text-clause-nothing_saved g c =
    or_else c.from_residual-in_err-text.result IsFaultOfSaving _
    (then_opened g.F.Folder.held g.F.Folder.may_leave g.F.Folder.moment g.F.Folder.left_since g.F.Folder.faults (g.F.HistoryFolder.may_fail c.args.folder.now) c.args.folder.now c.read_to_save.new.folder c.open_to_save.new.folder c.read_to_save.ensures.repaired c.open_to_save.ensures.repaired)

-- the history isn't shortened
pub returns-in_err-reply-clause-called : goal.returns-in_err-reply-clause-called
returns-in_err-reply-clause-called g c = not_ok c.from_residual-in_err-reply.result _ _ c.from_residual-in_err-reply.ensures.1

pub returns-in_err-reply-clause-any_moment : goal.returns-in_err-reply-clause-any_moment
returns-in_err-reply-clause-any_moment g c =
    only_repaired g.F.Folder.held g.F.Folder.may_leave g.F.Folder.moment g.F.Folder.left_since g.F.Folder.faults (g.F.HistoryFolder.may_fail c.args.folder.now) (IsSavedBy is_accepted (ForgetIsDone c.args.beginning)) c.args.folder.now c.open_to_save.new.folder
    (then_opened g.F.Folder.held g.F.Folder.may_leave g.F.Folder.moment g.F.Folder.left_since g.F.Folder.faults (g.F.HistoryFolder.may_fail c.args.folder.now) c.args.folder.now c.read_to_save.new.folder c.open_to_save.new.folder c.read_to_save.ensures.repaired c.open_to_save.ensures.repaired)

pub returns-in_err-reply-clause-nothing_saved : goal.returns-in_err-reply-clause-nothing_saved
returns-in_err-reply-clause-nothing_saved g c =
    or_else c.from_residual-in_err-reply.result IsFaultOfSaving _
    (then_opened g.F.Folder.held g.F.Folder.may_leave g.F.Folder.moment g.F.Folder.left_since g.F.Folder.faults (g.F.HistoryFolder.may_fail c.args.folder.now) c.args.folder.now c.read_to_save.new.folder c.open_to_save.new.folder c.read_to_save.ensures.repaired c.open_to_save.ensures.repaired)

pub save_and_print-requires : goal.save_and_print-requires
save_and_print-requires g c = c.in_ok-files-2.ensures.places

pub returns-clause-called : goal.returns-clause-called
returns-clause-called g c =
    answered g.F.Folder.held g.F.Folder.may_leave g.F.Folder.moment g.F.Folder.left_since g.F.Folder.faults (g.F.HistoryFolder.may_fail c.args.folder.now) (ForgetIsDone c.args.beginning) c.in_ok-files-2.files c.noted.new.session c.in_ok-reply.reply (c.in_ok-files-2.session, c.in_ok-files-2.ensures.stand, c.in_ok-reply.ensures) c.save_and_print.result
    (Appends (g.O.Write.contents c.args.call.now.output) (g.O.Write.contents c.save_and_print.new.output)) c.as_bytes.result.now (c.as_bytes.ensures.text ∙ c.set.ensures.text) c.args.folder.now c.open_to_save.new.folder c.save_and_print.new.folder
    (then_opened g.F.Folder.held g.F.Folder.may_leave g.F.Folder.moment g.F.Folder.left_since g.F.Folder.faults (g.F.HistoryFolder.may_fail c.args.folder.now) c.args.folder.now c.read_to_save.new.folder c.open_to_save.new.folder c.read_to_save.ensures.repaired c.open_to_save.ensures.repaired)
    c.in_ok-files-2.ensures.places c.save_and_print.ensures.said c.save_and_print.ensures.left

pub returns-clause-any_moment : goal.returns-clause-any_moment
returns-clause-any_moment g c =
    answering g.F.Folder.held g.F.Folder.may_leave g.F.Folder.moment g.F.Folder.left_since g.F.Folder.faults (g.F.HistoryFolder.may_fail c.args.folder.now) (ForgetIsDone c.args.beginning) c.in_ok-files-2.files c.noted.new.session c.in_ok-reply.reply (c.in_ok-files-2.session, c.in_ok-files-2.ensures.stand, c.in_ok-reply.ensures) c.args.folder.now c.open_to_save.new.folder c.save_and_print.new.folder
    (then_opened g.F.Folder.held g.F.Folder.may_leave g.F.Folder.moment g.F.Folder.left_since g.F.Folder.faults (g.F.HistoryFolder.may_fail c.args.folder.now) c.args.folder.now c.read_to_save.new.folder c.open_to_save.new.folder c.read_to_save.ensures.repaired c.open_to_save.ensures.repaired)
    c.in_ok-files-2.ensures.places c.save_and_print.ensures.any_moment

pub returns-clause-nothing_saved : goal.returns-clause-nothing_saved
returns-clause-nothing_saved g c = if_err c.save_and_print.result IsFaultOfSaving _ c.save_and_print.ensures.fault (λ stop fault. inl fault)
