use Rattle.search.proofs.Ranges.{at-member}
use Rattle.learning_search.proofs.demands.first_free.Goals as goal

pub returns-then-not-is_chosen : goal.returns-then-not-is_chosen
returns-then-not-is_chosen c = (at-member c.args.nodes.now c.loop-node.node-index 0 c.loop-node-test.true, c.is_chosen.ensures.free c.if-not-is_chosen.true)
