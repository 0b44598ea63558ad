use Rattle.toml.specs.View.{table_view}
use Rattle.pylock.proofs.LockIsExact.{lock-is}
use Rattle.pylock.proofs.lock.Lock.from_table.Goals as goal

pub returns-clause-exact : goal.returns-clause-exact
returns-clause-exact c = lock-is (table_view c.args.table.now) c.in_ok-lock.lock c.in_ok-lock.ensures
