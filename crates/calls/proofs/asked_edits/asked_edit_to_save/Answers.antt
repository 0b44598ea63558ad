use Rattle.std.proofs.Common.{subst, sym}
use Rattle.files.proofs.FolderRuns.{none_repaired, repaired_where}
use Rattle.calls.specs.AskedEdits.{MayGiveWay}
use Rattle.calls.proofs.GivesWay.{may_give_way}
use Rattle.calls.proofs.asked_edits.asked_edit_to_save.Goals as goal

pub returns-in_err-history-in-Typed-clause-repaired : goal.returns-in_err-history-in-Typed-clause-repaired
returns-in_err-history-in-Typed-clause-repaired g c = repaired_where g.F.Folder.held g.F.Folder.may_leave g.F.Folder.moment g.F.Folder.left_since g.F.Folder.faults (g.F.HistoryFolder.may_fail c.args.folder.now) (MayGiveWay c.args.asked (g.F.HistoryFolder.may_fail c.args.folder.now)) (λ no may. no (may_give_way c.args.asked (g.F.HistoryFolder.may_fail c.args.folder.now) may)) c.args.folder.now c.history_to_save.new.folder c.history_to_save.ensures.repaired

pub returns-in_ok-history-in-Typed-clause-repaired : goal.returns-in_ok-history-in-Typed-clause-repaired
returns-in_ok-history-in-Typed-clause-repaired g c = repaired_where g.F.Folder.held g.F.Folder.may_leave g.F.Folder.moment g.F.Folder.left_since g.F.Folder.faults (g.F.HistoryFolder.may_fail c.args.folder.now) (MayGiveWay c.args.asked (g.F.HistoryFolder.may_fail c.args.folder.now)) (λ no may. no (may_give_way c.args.asked (g.F.HistoryFolder.may_fail c.args.folder.now) may)) c.args.folder.now c.history_to_save.new.folder c.history_to_save.ensures.repaired

pub returns-in_ok-history-in-Typed-clause-places : goal.returns-in_ok-history-in-Typed-clause-places
returns-in_ok-history-in-Typed-clause-places g c = c.in_ok-history-in-Typed.ensures.places

pub returns-in-Replace-clause-repaired : goal.returns-in-Replace-clause-repaired
returns-in-Replace-clause-repaired g c =
    repaired_where g.F.Folder.held g.F.Folder.may_leave g.F.Folder.moment g.F.Folder.left_since g.F.Folder.faults _ (MayGiveWay c.args.asked (g.F.HistoryFolder.may_fail c.args.folder.now)) (λ no may. no (subst (λ asked. MayGiveWay asked (g.F.HistoryFolder.may_fail c.args.folder.now)) (sym c.in-Replace.is) may)) c.args.folder.now c.replaced_to_save.new.folder c.replaced_to_save.ensures.repaired

pub returns-in-Replace-clause-places : goal.returns-in-Replace-clause-places
returns-in-Replace-clause-places g c = c.replaced_to_save.ensures.places

pub returns-in_err-paths-in-Retarget-clause-repaired : goal.returns-in_err-paths-in-Retarget-clause-repaired
returns-in_err-paths-in-Retarget-clause-repaired g c = none_repaired g.F.Folder.held g.F.Folder.may_leave g.F.Folder.moment g.F.Folder.left_since g.F.Folder.faults (MayGiveWay c.args.asked (g.F.HistoryFolder.may_fail c.args.folder.now)) c.args.folder.now (λ d left. g.met.F.Folder.only_now c.args.folder.now d left)

pub returns-in_ok-paths-in-Retarget-clause-repaired : goal.returns-in_ok-paths-in-Retarget-clause-repaired
returns-in_ok-paths-in-Retarget-clause-repaired g c = repaired_where g.F.Folder.held g.F.Folder.may_leave g.F.Folder.moment g.F.Folder.left_since g.F.Folder.faults (g.F.HistoryFolder.may_fail c.args.folder.now) (MayGiveWay c.args.asked (g.F.HistoryFolder.may_fail c.args.folder.now)) (λ no may. no (may_give_way c.args.asked (g.F.HistoryFolder.may_fail c.args.folder.now) may)) c.args.folder.now c.retargeted_to_save.new.folder c.retargeted_to_save.ensures.repaired

pub returns-in_ok-paths-in-Retarget-clause-places : goal.returns-in_ok-paths-in-Retarget-clause-places
returns-in_ok-paths-in-Retarget-clause-places g c = c.retargeted_to_save.ensures.places

pub returns-in_ok-paths-in-Retarget-clause-edit : goal.returns-in_ok-paths-in-Retarget-clause-edit
returns-in_ok-paths-in-Retarget-clause-edit g c = rw c.in-Retarget.is (rw (c.in_ok-paths-in-Retarget.ensures.targets, c.in_ok-paths-in-Retarget.ensures.pins) at c.retargeted_to_save.ensures.edit)
