use Rattle.lists.proofs.Taking.{taken-more}
use Rattle.lists.proofs.lent.Lent.of.Goals as goal

pub loop-item-preserved : goal.loop-item-preserved
loop-item-preserved g c = taken-more c.loop-item.lent c.push.new.self c.args.items.now c.loop-item.item-index c.item-item.result c.loop-item-test.true c.item-item.is c.loop-item.invariant c.in_ok-push.ensures
