use Rattle.states.proofs.LockedFacts.{IsLocked-for, IsState-locked}
use Rattle.states.proofs.locks.locked.Goals as goal

pub from_lawful-requires : goal.from_lawful-requires
from_lawful-requires g c =
    IsState-locked c.args.lines c.args.pool.now c.args.unlocked c.in-Some.targets (rw c.in-Some.is at c.in_ok-targets.ensures) c.requires.some c.requires.rising c.recall_invariant.ensures

pub returns-in-Some : goal.returns-in-Some
returns-in-Some g c =
    rw c.from_lawful.ensures (IsLocked-for c.args.lines c.args.pool.now c.args.unlocked c.in-Some.targets (rw c.in-Some.is at c.in_ok-targets.ensures))
