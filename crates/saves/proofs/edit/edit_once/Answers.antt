use Rattle.std.specs.Io.KnownBytes.{Appends}
use Rattle.calls.specs.AskedEdits.{MayGiveWay}
use Rattle.calls.proofs.Pools.{pool-for}
use Rattle.commands.specs.Replies.{is_accepted}
use Rattle.files.proofs.FolderRuns.{on_ok_map}
use Rattle.journal.specs.Commands.{Editing}
use Rattle.saves.specs.Called.{EditIsDone, IsFaultOfSaving, IsSavedBy}
use Rattle.saves.proofs.CallRuns.{called, calling, not_ok, only_repaired, or_else, stopped_behind}
use Rattle.saves.proofs.edit.edit_once.Goals as goal

pub asked_edit_to_save-requires : goal.asked_edit_to_save-requires
asked_edit_to_save-requires g c = c.requires

-- the edit isn't read
pub returns-in_err-history-clause-called : goal.returns-in_err-history-clause-called
returns-in_err-history-clause-called g c = not_ok c.from_residual.result _ _ c.from_residual.ensures.1

pub returns-in_err-history-clause-any_moment : goal.returns-in_err-history-clause-any_moment
returns-in_err-history-clause-any_moment g c =
    only_repaired g.F.Folder.held g.F.Folder.may_leave g.F.Folder.moment g.F.Folder.left_since g.F.Folder.faults (MayGiveWay c.args.asked (g.F.HistoryFolder.may_fail c.args.folder.now)) (IsSavedBy is_accepted (EditIsDone (g.G.HandedFiles.handed c.args.handed.now) c.args.asked c.args.options.index.now c.args.targets.items c.args.options.keeps_locked c.args.options.only_if_needed)) c.args.folder.now c.asked_edit_to_save.new.folder c.asked_edit_to_save.ensures.repaired

pub returns-in_err-history-clause-nothing_saved : goal.returns-in_err-history-clause-nothing_saved
returns-in_err-history-clause-nothing_saved g c = or_else c.from_residual.result IsFaultOfSaving _ c.asked_edit_to_save.ensures.repaired

pub apply-requires : goal.apply-requires
apply-requires g c = c.in_ok-history.ensures.places

pub returns-clause-called : goal.returns-clause-called
returns-clause-called g c =
    on_ok_map c.apply.result _ _ c.apply.ensures.done (λ applied. called g.F.Folder.held g.F.Folder.may_leave g.F.Folder.moment g.F.Folder.left_since g.F.Folder.faults (MayGiveWay c.args.asked (g.F.HistoryFolder.may_fail c.args.folder.now)) c.args.options.only_if_needed (Editing c.in_ok-history.field-0.edit c.pool_of.result) c.in_ok-history.field-0.history.files c.in_ok-history.field-0.history.session.past (EditIsDone (g.G.HandedFiles.handed c.args.handed.now) c.args.asked c.args.options.index.now c.args.targets.items c.args.options.keeps_locked c.args.options.only_if_needed)
    (λ after reply goes. (c.in_ok-history.field-0.history.session, c.in_ok-history.ensures.history, (c.in_ok-history.field-0.edit, c.pool_of.result, pool-for (g.G.HandedFiles.handed c.args.handed.now) c.args.options.index.now c.args.options.keeps_locked c.in_ok-history.field-0.history.snapshot c.pool_of.result c.in_ok-history.ensures.index c.pool_of.ensures.index c.pool_of.ensures.kept, c.in_ok-history.ensures.edit, goes)))
    (Appends (g.O.Write.contents c.args.call.now.output) (g.O.Write.contents c.apply.new.call.output)) c.args.folder.now c.asked_edit_to_save.new.folder c.apply.new.folder c.asked_edit_to_save.ensures.repaired c.in_ok-history.ensures.places applied)

pub returns-clause-any_moment : goal.returns-clause-any_moment
returns-clause-any_moment g c =
    calling g.F.Folder.held g.F.Folder.may_leave g.F.Folder.moment g.F.Folder.left_since g.F.Folder.faults (MayGiveWay c.args.asked (g.F.HistoryFolder.may_fail c.args.folder.now)) c.args.options.only_if_needed (Editing c.in_ok-history.field-0.edit c.pool_of.result) c.in_ok-history.field-0.history.files c.in_ok-history.field-0.history.session.past (EditIsDone (g.G.HandedFiles.handed c.args.handed.now) c.args.asked c.args.options.index.now c.args.targets.items c.args.options.keeps_locked c.args.options.only_if_needed)
    (λ after reply goes. (c.in_ok-history.field-0.history.session, c.in_ok-history.ensures.history, (c.in_ok-history.field-0.edit, c.pool_of.result, pool-for (g.G.HandedFiles.handed c.args.handed.now) c.args.options.index.now c.args.options.keeps_locked c.in_ok-history.field-0.history.snapshot c.pool_of.result c.in_ok-history.ensures.index c.pool_of.ensures.index c.pool_of.ensures.kept, c.in_ok-history.ensures.edit, goes)))
    c.args.folder.now c.asked_edit_to_save.new.folder c.apply.new.folder c.asked_edit_to_save.ensures.repaired c.in_ok-history.ensures.places c.apply.ensures.any_moment

pub returns-clause-nothing_saved : goal.returns-clause-nothing_saved
returns-clause-nothing_saved g c =
    stopped_behind g.F.Folder.held g.F.Folder.may_leave g.F.Folder.moment g.F.Folder.left_since g.F.Folder.faults (MayGiveWay c.args.asked (g.F.HistoryFolder.may_fail c.args.folder.now)) c.apply.result c.args.folder.now c.asked_edit_to_save.new.folder c.apply.new.folder c.asked_edit_to_save.ensures.repaired c.apply.ensures.nothing_saved
