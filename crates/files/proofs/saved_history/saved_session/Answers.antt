use Rattle.files.proofs.Opened.{is-read}
use Rattle.files.proofs.saved_history.saved_session.Goals as goal

pub returns : goal.returns
returns g c = is-read (g.F.Folder.held c.args.folder.now) c.in_ok-still_files.field-0 c.open.result c.in_ok-still_files.ensures c.open.ensures
