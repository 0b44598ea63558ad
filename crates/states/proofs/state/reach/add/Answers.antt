use Rattle.std.proofs.Common.{refl}
use Rattle.states.proofs.ReachFacts.{IsGrown-kept}
use Rattle.states.proofs.state.reach.add.Goals as goal

pub returns-then-has-clause-grown : goal.returns-then-has-clause-grown
returns-then-has-clause-grown c = IsGrown-kept c.args.names.now c.args.name.now (c.if-has.ensures.0 refl)
