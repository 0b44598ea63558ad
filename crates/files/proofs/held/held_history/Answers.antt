use Rattle.files.proofs.Opened.{is-told}
use Rattle.files.proofs.held.held_history.Goals as goal

pub returns : goal.returns
returns g c = is-told (g.F.Folder.held c.args.folder.now) c.in_ok-files.files c.held_in.result c.in_ok-files.ensures c.held_in.ensures
