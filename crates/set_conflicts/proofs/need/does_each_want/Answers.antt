use Rattle.std.proofs.Common.{ℕ, Contains}
use Rattle.search.specs.Table.{rules_of}
use Rattle.set_conflicts.proofs.Listed.{each-more, each-end}
use Rattle.set_conflicts.proofs.need.does_each_want.Goals as goal

pub loop-place-preserved : goal.loop-place-preserved
loop-place-preserved c = each-more (λ v. (wanted : ℕ) × Contains ((rules_of c.args.table.now).wants c.args.by v) wanted × Contains ((rules_of c.args.table.now).nodes wanted) c.args.node) c.args.places.now c.loop-place.place-index 0 c.loop-place-test.true c.loop-place.invariant (c.does_want.ensures c.if-not-does_want.false)

pub returns : goal.returns
returns c = λ _. each-end (λ v. (wanted : ℕ) × Contains ((rules_of c.args.table.now).wants c.args.by v) wanted × Contains ((rules_of c.args.table.now).nodes wanted) c.args.node) c.args.places.now c.loop-place.place-index c.loop-place-test.false c.loop-place.invariant
