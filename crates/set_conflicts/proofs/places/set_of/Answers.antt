use Rattle.set_conflicts.proofs.Listed.{each-end}
use Rattle.set_conflicts.proofs.SetsOf.{all-more, only-more}
use Rattle.std.specs.List.{Contains}
use Rattle.set_conflicts.proofs.places.set_of.Goals as goal

pub loop-place-preserved : goal.loop-place-preserved
loop-place-preserved c = record {
  all = all-more c.args.places.now c.loop-place.place-index c.loop-place.set c.insert.new.self c.loop-place-test.true c.loop-place.invariant.all c.in_ok-insert.ensures;
  only = only-more c.args.places.now c.loop-place.place-index c.loop-place.set c.insert.new.self c.loop-place-test.true c.loop-place.invariant.only c.in_ok-insert.ensures;
}

pub returns-clause-all : goal.returns-clause-all
returns-clause-all c = each-end (Contains c.loop-place.set) c.args.places.now c.loop-place.place-index c.loop-place-test.false c.loop-place.invariant.all
