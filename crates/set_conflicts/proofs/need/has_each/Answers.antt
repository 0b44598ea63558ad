use Rattle.std.proofs.Common.{Contains}
use Rattle.set_conflicts.proofs.Listed.{each-more, each-end}
use Rattle.set_conflicts.proofs.need.has_each.Goals as goal

pub loop-place-preserved : goal.loop-place-preserved
loop-place-preserved c = each-more (Contains c.args.covered.now) c.args.places.now c.loop-place.place-index 0 c.loop-place-test.true c.loop-place.invariant (c.has.ensures.there c.if-not-has.false)

pub returns : goal.returns
returns c = λ _. each-end (Contains c.args.covered.now) c.args.places.now c.loop-place.place-index c.loop-place-test.false c.loop-place.invariant
