use Rattle.problems.specs.Tied.Standing.{Stands}
use Rattle.problems.specs.declared.node.Node.{Node}
use Rattle.resolve.proofs.Standing.{AllZip-more}
use Rattle.resolve.proofs.names.numbers_of.Goals as goal

pub loop-node-preserved : goal.loop-node-preserved
loop-node-preserved c =
    AllZip-more (Stands c.args.names.now) (λ (node : Node). node.name) c.loop-node.numbers.items c.push.new.self.items c.args.nodes.now c.loop-node.node-index c.number_of.result c.node-item.result c.loop-node-test.true c.node-item.is c.in_ok-push.ensures.items c.loop-node.invariant c.number_of.ensures
