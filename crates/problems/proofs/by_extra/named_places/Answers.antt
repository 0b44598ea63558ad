use Rattle.problems.specs.Tied.ByExtra.{listed_for}
use Rattle.problems.proofs.ListedPlaces.{listed-next}
use Rattle.problems.proofs.by_extra.named_places.Goals as goal

pub loop-place-preserved : goal.loop-place-preserved
loop-place-preserved c = λ extra.
    listed-next extra c.args.dependencies.now c.loop-place.place c.index-dependencies-place.result (listed_for c.loop-place.named extra) (listed_for c.list_extras.new.named extra) c.loop-place-test.true c.index-dependencies-place.is (c.loop-place.invariant extra)
    (c.in_ok-list_extras.ensures extra)
