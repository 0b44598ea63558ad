use Rattle.states.proofs.ReachFacts.{IsGrown-more}
use Rattle.states.proofs.state.reach.add_all.Goals as goal

pub loop-name-preserved : goal.loop-name-preserved
loop-name-preserved c =
    IsGrown-more _ c.loop-name.names c.add.new.names c.args.asked.now c.loop-name.name-index c.name-item.result c.loop-name-test.true c.name-item.is c.loop-name.invariant c.in_ok-add.ensures.grown
