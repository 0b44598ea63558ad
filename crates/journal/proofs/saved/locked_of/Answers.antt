use Rattle.journal.proofs.LocksInserted.{locked-all, locked-more}
use Rattle.journal.proofs.saved.locked_of.Goals as goal

pub loop-place-preserved : goal.loop-place-preserved
loop-place-preserved c =
    locked-more c.args.targets.now c.loop-place.place c.index-targets-place.result c.loop-place.locked _ c.requires.rising c.loop-place-test.true c.index-targets-place.is c.loop-place.invariant c.in_ok-insert_target.ensures

pub returns : goal.returns
returns c = locked-all c.args.targets.now c.loop-place.place c.loop-place.locked c.loop-place-test.false c.loop-place.invariant
