use Rattle.files.proofs.HeldFiles.{read_in_place}
use Rattle.files.proofs.UnreadFiles.{unread_in_place}
use Rattle.files.proofs.saved_files.SavedFiles.read.Goals as goal

pub returns : goal.returns
returns g c = record {
  places = read_in_place (g.F.Folder.held c.args.folder.now) c.none.result c.read_with.result c.none.ensures c.read_with.ensures.stand;
  named = c.read_with.ensures.named;
  unread = unread_in_place (g.F.Folder.held c.args.folder.now) (g.F.HistoryFolder.may_fail c.args.folder.now) c.none.result c.read_with.result c.none.ensures c.read_with.ensures.unread;
}
