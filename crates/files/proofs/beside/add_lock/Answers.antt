use Rattle.std.proofs.Common.{refl}
use Rattle.files.proofs.AddedLocks.{takes-inserted}
use Rattle.files.proofs.beside.add_lock.Goals as goal

pub returns-in_ok-insert-in-Lock-clause-takes : goal.returns-in_ok-insert-in-Lock-clause-takes
returns-in_ok-insert-in-Lock-clause-takes c = takes-inserted c.args.file c.in-Lock.name c.args.beside.now _ c.in-Lock.is refl refl c.in_ok-insert-in-Lock.ensures.updates.0
