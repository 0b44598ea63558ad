use Rattle.pylock.proofs.BackFacts.{lock-back}
use Rattle.pylock.proofs.LockIsExact.{lock-is}
use Rattle.pylock.proofs.laws.a_table_is_that_of_its_lock.Goals as goal

pub returns-clause-exact : goal.returns-clause-exact
returns-clause-exact c = lock-is

pub returns-clause-found : goal.returns-clause-found
returns-clause-found c = lock-back c.a_canonical_text_is_read.ensures
