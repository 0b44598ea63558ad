use Rattle.files.proofs.FolderRuns.{none_removed}
use Rattle.files.proofs.stopped_save.remove_left_of_opened.Goals as goal

pub returns-in_err-add_named : goal.returns-in_err-add_named
returns-in_err-add_named g c = none_removed g.F.Folder.held g.F.Folder.may_leave g.F.Folder.moment g.F.Folder.left_since g.F.Folder.faults c.args.folder.now (λ d left. g.met.F.Folder.only_now c.args.folder.now d left)

pub returns : goal.returns
returns g c = c.remove_left.ensures
