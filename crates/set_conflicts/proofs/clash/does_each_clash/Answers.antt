use Rattle.std.proofs.Common.{ℕ, Contains}
use Rattle.search.specs.SetConflicts.{PairClashes}
use Rattle.search.specs.Table.{rules_of, places_eq}
use Rattle.set_conflicts.proofs.Listed.{each-more, each-end}
use Rattle.set_conflicts.proofs.clash.does_each_clash.Goals as goal

pub loop-place-preserved : goal.loop-place-preserved
loop-place-preserved c = each-more (λ v. (w : ℕ) → Contains c.args.besides.now w → PairClashes (rules_of c.args.table.now) places_eq c.args.node v c.args.other w) c.args.places.now c.loop-place.place-index 0 c.loop-place-test.true c.loop-place.invariant (c.clashes_with_each.ensures c.if-not-clashes_with_each.false)

pub returns : goal.returns
returns c = λ _. each-end (λ v. (w : ℕ) → Contains c.args.besides.now w → PairClashes (rules_of c.args.table.now) places_eq c.args.node v c.args.other w) c.args.places.now c.loop-place.place-index c.loop-place-test.false c.loop-place.invariant
