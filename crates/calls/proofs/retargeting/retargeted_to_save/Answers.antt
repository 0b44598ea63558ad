use Rattle.std.proofs.Common.{subst, sym}
use Rattle.files.specs.Places.{AllAre, AreInPlace, bytes_read}
use Rattle.files.specs.declared.saved_files.SavedFiles.{SavedFiles}
use Rattle.files.proofs.FolderRuns.{repaired_twice, repaired_where}
use Rattle.calls.proofs.retargeting.retargeted_to_save.Goals as goal

pub returns-in_err-files-clause-repaired : goal.returns-in_err-files-clause-repaired
returns-in_err-files-clause-repaired g c = c.read_to_save.ensures.repaired

pub returns-in_err-read-clause-repaired : goal.returns-in_err-read-clause-repaired
returns-in_err-read-clause-repaired g c = c.read_to_save.ensures.repaired

pub returns-in_err-files-2-clause-repaired : goal.returns-in_err-files-2-clause-repaired
returns-in_err-files-2-clause-repaired g c =
    repaired_twice g.F.Folder.held g.F.Folder.may_leave g.F.Folder.moment g.F.Folder.left_since g.F.Folder.faults (g.F.HistoryFolder.may_fail c.args.folder.now) c.args.folder.now c.read_to_save.new.folder c.open_to_save.new.folder c.read_to_save.ensures.repaired
    (repaired_where g.F.Folder.held g.F.Folder.may_leave g.F.Folder.moment g.F.Folder.left_since g.F.Folder.faults _ (g.F.HistoryFolder.may_fail c.args.folder.now) (λ no never. never) c.read_to_save.new.folder c.open_to_save.new.folder c.open_to_save.ensures.repaired)

pub returns-in_err-made_of-clause-repaired : goal.returns-in_err-made_of-clause-repaired
returns-in_err-made_of-clause-repaired g c =
    repaired_twice g.F.Folder.held g.F.Folder.may_leave g.F.Folder.moment g.F.Folder.left_since g.F.Folder.faults (g.F.HistoryFolder.may_fail c.args.folder.now) c.args.folder.now c.read_to_save.new.folder c.open_to_save.new.folder c.read_to_save.ensures.repaired
    (repaired_where g.F.Folder.held g.F.Folder.may_leave g.F.Folder.moment g.F.Folder.left_since g.F.Folder.faults _ (g.F.HistoryFolder.may_fail c.args.folder.now) (λ no never. never) c.read_to_save.new.folder c.open_to_save.new.folder c.open_to_save.ensures.repaired)

pub returns-clause-repaired : goal.returns-clause-repaired
returns-clause-repaired g c =
    repaired_twice g.F.Folder.held g.F.Folder.may_leave g.F.Folder.moment g.F.Folder.left_since g.F.Folder.faults (g.F.HistoryFolder.may_fail c.args.folder.now) c.args.folder.now c.read_to_save.new.folder c.open_to_save.new.folder c.read_to_save.ensures.repaired
    (repaired_where g.F.Folder.held g.F.Folder.may_leave g.F.Folder.moment g.F.Folder.left_since g.F.Folder.faults _ (g.F.HistoryFolder.may_fail c.args.folder.now) (λ no never. never) c.read_to_save.new.folder c.open_to_save.new.folder c.open_to_save.ensures.repaired)

pub returns-clause-places : goal.returns-clause-places
returns-clause-places g c =
    subst (λ (f : SavedFiles). AllAre (g.F.Folder.held c.open_to_save.new.folder) (g.F.Folder.may_leave c.open_to_save.new.folder) (λ h. AreInPlace h (bytes_read f))) (sym c.in_ok-made_of.ensures.files) c.in_ok-files-2.ensures.places

pub returns-clause-history : goal.returns-clause-history
returns-clause-history g c = rw (c.in_ok-made_of.ensures.files, c.in_ok-made_of.ensures.session) c.in_ok-files-2.ensures.stand

pub returns-clause-edit : goal.returns-clause-edit
returns-clause-edit g c = record {
  read = c.in_ok-read.read.environments.items;
  pinned = c.in_ok-read.read.pins.items;
  read_at = c.in_ok-read.ensures.environments;
  pinned_at = c.in_ok-read.ensures.pins;
  retarget = c.in_ok-made_of.ensures.edit;
}

pub returns-clause-index : goal.returns-clause-index
returns-clause-index g c = (c.in_ok-read.read.index.items, c.in_ok-read.ensures.index, c.in_ok-made_of.ensures.index)
