use Rattle.memory_folder.proofs.Names.{one_more}
use Rattle.memory_folder.proofs.changes.standing_after.Goals as goal

pub loop-index-preserved : goal.loop-index-preserved
loop-index-preserved c =
    one_more c.args.name.now c.args.changes.now c.loop-index.index c.index-changes-index.result c.loop-index.standing c.in_ok-standing.standing c.loop-index-test.true c.index-changes-index.is c.loop-index.invariant
    c.in_ok-standing.ensures
