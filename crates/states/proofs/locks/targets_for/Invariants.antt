use Rattle.states.proofs.LockedFacts.{IsLockedSoFar}
use Rattle.states.proofs.locks.targets_for.Given as goal

abbrev pub invariant-loop-one : goal.invariant-loop-one
invariant-loop-one g l = IsLockedSoFar l.lines l.pool l.fn.unlocked l.one-iterator.rest.items l.made.items
