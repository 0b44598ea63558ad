use Rattle.search.specs.SetConflicts.{PairClashes}
use Rattle.search.specs.Table.{rules_of, places_eq}
use Rattle.set_conflicts.proofs.Listed.{each-more, each-end}
use Rattle.set_conflicts.proofs.clash.clashes_with_each.Goals as goal

pub loop-beside-preserved : goal.loop-beside-preserved
loop-beside-preserved c = each-more (PairClashes (rules_of c.args.table.now) places_eq c.args.node c.args.place c.args.other) c.args.besides.now c.loop-beside.beside-index 0 c.loop-beside-test.true c.loop-beside.invariant (c.does_pair_clash.ensures c.if-not-does_pair_clash.false)

pub returns : goal.returns
returns c = λ _. each-end (PairClashes (rules_of c.args.table.now) places_eq c.args.node c.args.place c.args.other) c.args.besides.now c.loop-beside.beside-index c.loop-beside-test.false c.loop-beside.invariant
