use Rattle.search.specs.Known.{IsKnownTerm}
use Rattle.set_conflicts.proofs.Listed.{item-more, each-end}
use Rattle.set_conflicts.proofs.known_terms.are_all_known.Goals as goal

pub loop-term-preserved : goal.loop-term-preserved
loop-term-preserved c = item-more (IsKnownTerm c.args.table.now) c.args.conflict.now c.loop-term.term-index c.term-item.result c.loop-term-test.true c.term-item.is c.loop-term.invariant (c.in_ok-is_known.ensures c.if-not-branch.false)

pub returns : goal.returns
returns c = λ _. each-end (IsKnownTerm c.args.table.now) c.args.conflict.now c.loop-term.term-index c.loop-term-test.false c.loop-term.invariant
