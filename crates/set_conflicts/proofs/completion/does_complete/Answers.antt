use Rattle.set_conflicts.specs.Tied.Covers.{IsBoundOrAt}
use Rattle.set_conflicts.proofs.Listed.{item-more, each-end}
use Rattle.set_conflicts.proofs.completion.does_complete.Goals as goal

pub loop-term-preserved : goal.loop-term-preserved
loop-term-preserved c = item-more (IsBoundOrAt c.args.conflict.now c.args.node c.args.places.now) c.args.old.now c.loop-term.term-index c.term-item.result c.loop-term-test.true c.term-item.is c.loop-term.invariant (c.is_met.ensures c.if-not-is_met.false)

pub returns : goal.returns
returns c = λ _. each-end (IsBoundOrAt c.args.conflict.now c.args.node c.args.places.now) c.args.old.now c.loop-term.term-index c.loop-term-test.false c.loop-term.invariant
