use Rattle.files.proofs.FolderRuns.{repaired_twice, repaired_where}
use Rattle.files.proofs.saved_history.history_to_save.Goals as goal

pub returns-in_err-files-clause-repaired : goal.returns-in_err-files-clause-repaired
returns-in_err-files-clause-repaired g c = c.read_to_save.ensures.repaired

pub returns-in_err-index-clause-repaired : goal.returns-in_err-index-clause-repaired
returns-in_err-index-clause-repaired g c = c.read_to_save.ensures.repaired

pub returns-in_err-files-2-clause-repaired : goal.returns-in_err-files-2-clause-repaired
returns-in_err-files-2-clause-repaired g c =
    repaired_twice g.F.Folder.held g.F.Folder.may_leave g.F.Folder.moment g.F.Folder.left_since g.F.Folder.faults (g.F.HistoryFolder.may_fail c.args.folder.now) c.args.folder.now c.read_to_save.new.folder c.open_to_save.new.folder c.read_to_save.ensures.repaired
    (repaired_where g.F.Folder.held g.F.Folder.may_leave g.F.Folder.moment g.F.Folder.left_since g.F.Folder.faults _ _ (λ no never. never) c.read_to_save.new.folder c.open_to_save.new.folder c.open_to_save.ensures.repaired)

pub returns-in_err-snapshot-clause-repaired : goal.returns-in_err-snapshot-clause-repaired
returns-in_err-snapshot-clause-repaired g c =
    repaired_twice g.F.Folder.held g.F.Folder.may_leave g.F.Folder.moment g.F.Folder.left_since g.F.Folder.faults (g.F.HistoryFolder.may_fail c.args.folder.now) c.args.folder.now c.read_to_save.new.folder c.open_to_save.new.folder c.read_to_save.ensures.repaired
    (repaired_where g.F.Folder.held g.F.Folder.may_leave g.F.Folder.moment g.F.Folder.left_since g.F.Folder.faults _ _ (λ no never. never) c.read_to_save.new.folder c.open_to_save.new.folder c.open_to_save.ensures.repaired)

pub returns-clause-repaired : goal.returns-clause-repaired
returns-clause-repaired g c =
    repaired_twice g.F.Folder.held g.F.Folder.may_leave g.F.Folder.moment g.F.Folder.left_since g.F.Folder.faults (g.F.HistoryFolder.may_fail c.args.folder.now) c.args.folder.now c.read_to_save.new.folder c.open_to_save.new.folder c.read_to_save.ensures.repaired
    (repaired_where g.F.Folder.held g.F.Folder.may_leave g.F.Folder.moment g.F.Folder.left_since g.F.Folder.faults _ _ (λ no never. never) c.read_to_save.new.folder c.open_to_save.new.folder c.open_to_save.ensures.repaired)
