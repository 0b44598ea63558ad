use Rattle.files.proofs.FolderRuns.{all_settled, if_ok, none_repaired, on_ok, repaired_moving}
use Rattle.files.proofs.GivesWay.{not_memory}
use Rattle.files.proofs.saved_files.SavedFiles.read_to_save.Goals as goal

pub returns-in_err-end_stopped-in-Err-Input-clause-repaired : goal.returns-in_err-end_stopped-in-Err-Input-clause-repaired
returns-in_err-end_stopped-in-Err-Input-clause-repaired g c =
    repaired_moving g.F.Folder.held g.F.Folder.may_leave g.F.Folder.moment g.F.Folder.left_since g.F.Folder.faults (g.F.HistoryFolder.may_fail c.args.folder.now) c.args.folder.now c.end_stopped.new.folder c.requires
    (not_memory _ _ _ _ c.read.result c.in-Err-Input.is c.in-Err-Input.field-0-is c.read.ensures.unread) c.end_stopped.ensures.moved

pub returns-then-branch-clause-repaired : goal.returns-then-branch-clause-repaired
returns-then-branch-clause-repaired g c =
    repaired_moving g.F.Folder.held g.F.Folder.may_leave g.F.Folder.moment g.F.Folder.left_since g.F.Folder.faults (g.F.HistoryFolder.may_fail c.args.folder.now) c.args.folder.now c.end_stopped.new.folder c.requires
    (not_memory _ _ _ _ c.read.result c.in-Err-Input.is c.in-Err-Input.field-0-is c.read.ensures.unread) c.end_stopped.ensures.moved

pub returns-else-branch-clause-repaired : goal.returns-else-branch-clause-repaired
returns-else-branch-clause-repaired g c =
    repaired_moving g.F.Folder.held g.F.Folder.may_leave g.F.Folder.moment g.F.Folder.left_since g.F.Folder.faults (g.F.HistoryFolder.may_fail c.args.folder.now) c.args.folder.now c.end_stopped.new.folder c.requires
    (not_memory _ _ _ _ c.read.result c.in-Err-Input.is c.in-Err-Input.field-0-is c.read.ensures.unread) c.end_stopped.ensures.moved

pub returns-in_default-2-clause-repaired : goal.returns-in_default-2-clause-repaired
returns-in_default-2-clause-repaired g c = none_repaired g.F.Folder.held g.F.Folder.may_leave g.F.Folder.moment g.F.Folder.left_since g.F.Folder.faults (g.F.HistoryFolder.may_fail c.args.folder.now) c.args.folder.now (λ d left. g.met.F.Folder.only_now c.args.folder.now d left)

pub returns-then-branch-clause-places : goal.returns-then-branch-clause-places
returns-then-branch-clause-places g c =
    if_ok c.read-then-branch.result _ _ c.read-then-branch.ensures.places
    (λ files are. all_settled g.F.Folder.held g.F.Folder.may_leave g.F.Folder.moment g.F.Folder.left_since g.F.Folder.faults _ c.end_stopped.new.folder (c.in_ok-end_stopped-in-Err-Input.ensures.settled c.requires) are)

pub returns-in_default-2-clause-places : goal.returns-in_default-2-clause-places
returns-in_default-2-clause-places g c =
    if_ok c.read.result _ _ c.read.ensures.places (λ files are. all_settled g.F.Folder.held g.F.Folder.may_leave g.F.Folder.moment g.F.Folder.left_since g.F.Folder.faults _ c.args.folder.now c.requires are)

pub returns-then-branch-clause-settled : goal.returns-then-branch-clause-settled
returns-then-branch-clause-settled g c = on_ok c.read-then-branch.result _ (c.in_ok-end_stopped-in-Err-Input.ensures.settled c.requires)

pub returns-in_default-2-clause-settled : goal.returns-in_default-2-clause-settled
returns-in_default-2-clause-settled g c = on_ok c.read.result _ c.requires

pub returns-then-branch-clause-named : goal.returns-then-branch-clause-named
returns-then-branch-clause-named g c = c.read-then-branch.ensures.named

pub returns-in_default-2-clause-named : goal.returns-in_default-2-clause-named
returns-in_default-2-clause-named g c = c.read.ensures.named
