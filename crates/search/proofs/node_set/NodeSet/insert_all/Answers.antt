use Rattle.std.proofs.Common.{◌<◌, get_or, sym, subst}
use Rattle.search.proofs.Nodes.{grown-node}
use Rattle.search.proofs.Ranges.{at-member}
use Rattle.search.proofs.node_set.NodeSet.insert_all.Goals as goal

pub insert-requires : goal.insert-requires
insert-requires c = subst (λ room. get_or c.args.nodes.now c.loop-node.node-index 0 < room) (sym c.loop-node.invariant.room)
    (c.requires _ (at-member c.args.nodes.now c.loop-node.node-index 0 c.loop-node-test.true))

pub loop-node-preserved : goal.loop-node-preserved
loop-node-preserved c = grown-node c.args.self.now c.loop-node.self c.insert.new.self c.args.nodes.now c.loop-node.node-index c.loop-node-test.true c.loop-node.invariant c.in_ok-insert.ensures
