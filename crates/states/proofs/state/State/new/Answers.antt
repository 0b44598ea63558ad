use Rattle.states.proofs.JoinFacts.{made-of-parts}
use Rattle.states.proofs.state.State.new.Goals as goal

pub returns : goal.returns
returns c =
    made-of-parts c.args.lines c.args.targets c.args.locks c.in-Some.targets c.state_of.result (rw c.in-Some.is at c.in_ok-targets.ensures) c.state_of.ensures
