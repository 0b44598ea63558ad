use Rattle.problems.specs.Tied.ByExtra.{listed_for}
use Rattle.problems.proofs.ListedPlaces.{listed-turn}
use Rattle.problems.proofs.by_extra.list_extras.Goals as goal

pub loop-extra-preserved : goal.loop-extra-preserved
loop-extra-preserved c = λ other.
    listed-turn (λ name. name.now) (listed_for c.args.named.now other) (listed_for c.loop-extra.named other) (listed_for c.list.new.named other) c.args.place other c.as_slice-names.result.now c.loop-extra.extra-index c.extra-item.result c.loop-extra-test.true c.extra-item.is
    (c.loop-extra.invariant other) (c.in_ok-list.ensures other)
