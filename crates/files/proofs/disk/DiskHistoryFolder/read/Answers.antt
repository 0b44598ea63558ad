use Rattle.std.proofs.Common.{◌≡◌}
use Rattle.files.proofs.Unread.{unread_at}
use Rattle.files.proofs.disk.DiskHistoryFolder.read.Goals as goal

pub returns-in-Err-clause-fault : goal.returns-in-Err-clause-fault
returns-in-Err-clause-fault g c = unread_at _ c.args.is_beside _ _ _ _ c.read_as.ensures
