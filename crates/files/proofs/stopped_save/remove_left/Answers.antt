use Rattle.files.proofs.FolderRuns.{cleared_behind, none_removed, removed_same}
use Rattle.files.proofs.stopped_save.remove_left.Goals as goal

pub returns-in_err-files : goal.returns-in_err-files
returns-in_err-files g c = none_removed g.F.Folder.held g.F.Folder.may_leave g.F.Folder.moment g.F.Folder.left_since g.F.Folder.faults c.args.folder.now (λ d left. g.met.F.Folder.only_now c.args.folder.now d left)

pub returns-in_err-names : goal.returns-in_err-names
returns-in_err-names g c = removed_same g.F.Folder.held g.F.Folder.may_leave g.F.Folder.moment g.F.Folder.left_since g.F.Folder.faults c.args.folder.now c.add_beside.new.self c.add_beside.ensures.still

pub returns : goal.returns
returns g c =
    cleared_behind g.F.Folder.held g.F.Folder.may_leave g.F.Folder.moment g.F.Folder.left_since g.F.Folder.faults _ c.args.folder.now c.add_beside.new.self c.clear_names.new.folder
    c.add_beside.ensures.still c.clear_names.ensures
