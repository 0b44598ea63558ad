use Rattle.states.proofs.LockFacts.{lock-entries, lock-there}
use Rattle.states.proofs.locks.lock_of.Goals as goal

pub unreachable-requires : goal.unreachable-requires
unreachable-requires c = lock-there _ _ c.new.ensures c.in_ok-entries.ensures.rising c.in-None.is

pub returns-clause-entries : goal.returns-clause-entries
returns-clause-entries c = rw (lock-entries _ c.in-Some.lock _ c.new.ensures c.in_ok-entries.ensures.rising c.in-Some.is) c.in_ok-entries.ensures
