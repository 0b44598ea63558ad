use Rattle.std.proofs.Common.{subst}
use Rattle.problems.specs.Tied.Standing.{IsOnce}
use Rattle.states.proofs.ReachFacts.{once-few}
use Rattle.states.proofs.state.reach.Names.len.Goals as goal

pub returns-clause-once : goal.returns-clause-once
returns-clause-once c = subst (λ names. IsOnce names) c.self.view_is (once-few c.self.inside.listed.items c.self.invariant.1)
