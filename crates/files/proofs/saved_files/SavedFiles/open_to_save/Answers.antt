use Rattle.files.proofs.FolderRuns.{repaired_where}
use Rattle.files.proofs.saved_files.SavedFiles.open_to_save.Goals as goal

pub returns-clause-repaired : goal.returns-clause-repaired
returns-clause-repaired g c = repaired_where g.F.Folder.held g.F.Folder.may_leave g.F.Folder.moment g.F.Folder.left_since g.F.Folder.faults _ _ (λ no is. cc is) c.args.folder.now c.open_over_to_save.new.folder c.open_over_to_save.ensures.repaired

pub returns-clause-places : goal.returns-clause-places
returns-clause-places g c = c.open_over_to_save.ensures.places

pub returns-clause-stand : goal.returns-clause-stand
returns-clause-stand g c = c.open_over_to_save.ensures.opens
