use Rattle.states.proofs.ReachFacts.{IsGrown-line}
use Rattle.states.proofs.state.reach.add_lines.Goals as goal

pub loop-line-preserved : goal.loop-line-preserved
loop-line-preserved c =
    IsGrown-line c.args.environment.now _ c.loop-line.names c.add_line.new.names c.args.lines.now c.loop-line.line-index c.line-item.result c.loop-line-test.true c.line-item.is c.loop-line.invariant c.in_ok-add_line.ensures
