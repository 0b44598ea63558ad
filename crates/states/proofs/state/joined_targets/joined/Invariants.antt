use Rattle.states.proofs.JoinFacts.{IsJoined}
use Rattle.states.proofs.state.joined_targets.joined.Given as goal

abbrev pub invariant-loop-name : goal.invariant-loop-name
invariant-loop-name l = IsJoined l.fn.targets l.fn.locks l.name-iterator.rest.items l.locks.rest.items l.made.items
