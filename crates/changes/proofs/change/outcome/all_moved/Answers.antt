use Rattle.std.proofs.lemmas.List.Elements.{all_zip_more}
use Rattle.changes.specs.Changes.{ChangesTarget}
use Rattle.changes.proofs.MovedFacts.{moves-all, stops-at}
use Rattle.changes.proofs.change.outcome.all_moved.Goals as goal

pub returns-in_default : goal.returns-in_default
returns-in_default c =
    stops-at c.args.change.now c.args.targets.now c.loop-target.target-index c.target-item.result c.loop-target-test.true c.target-item.is (rw c.in_default.is at c.in_ok-next.ensures)

pub loop-target-preserved : goal.loop-target-preserved
loop-target-preserved c =
    rw c.in_ok-push.ensures.items
    (all_zip_more (ChangesTarget c.args.change.now) c.args.targets.now c.loop-target.made.items c.loop-target.target-index c.target-item.result c.in-Some.next
    c.loop-target-test.true c.target-item.is c.loop-target.invariant (rw c.in-Some.is at c.in_ok-next.ensures).0)

pub returns : goal.returns
returns c = rw c.from_vec.ensures (moves-all c.args.change.now c.args.targets.now c.loop-target.target-index c.loop-target.made.items c.loop-target-test.false c.loop-target.invariant)
