use Rattle.problems.specs.Problem.{requirements}
use Rattle.states.proofs.ReachFacts.{reached-alike}
use Rattle.states.proofs.state.reach.are_reached.Goals as goal

pub returns : goal.returns
returns c =
    let k = reached-alike (requirements c.args.environment.now c.args.lines.now) c.args.entries.now c.in_ok-names.names c.in_ok-names.ensures in
    ((λ h. k.0 (c.have_names.ensures.0 h)), (λ h. c.have_names.ensures.1 (k.1 h)))
