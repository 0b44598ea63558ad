use Rattle.set_conflicts.specs.Tied.Domains.{HoldsBut}
use Rattle.set_conflicts.proofs.Listed.{item-more, each-end}
use Rattle.set_conflicts.proofs.justification.does_cut.Goals as goal

pub loop-term-preserved : goal.loop-term-preserved
loop-term-preserved c = item-more (HoldsBut c.args.domains.now c.args.cut.now.node c.args.cut.now.versions) c.args.conflict.now c.loop-term.term-index c.term-item.result c.loop-term-test.true c.term-item.is c.loop-term.invariant (c.does_hold_but.ensures c.if-not-does_hold_but.false)

pub returns : goal.returns
returns c = λ _. each-end (HoldsBut c.args.domains.now c.args.cut.now.node c.args.cut.now.versions) c.args.conflict.now c.loop-term.term-index c.loop-term-test.false c.loop-term.invariant
