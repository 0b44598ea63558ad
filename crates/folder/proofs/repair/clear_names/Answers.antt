use Rattle.folder.proofs.RepairTurns.{clears_name}
use Rattle.folder.proofs.repair.clear_names.Goals as goal

pub loop-index-preserved : goal.loop-index-preserved
loop-index-preserved g c =
    clears_name g.F.Folder.held g.F.Folder.may_leave g.F.Folder.moment g.F.Folder.left_since g.F.Folder.faults c.args.names.now c.loop-index.index c.index-names-index.result c.as_str.result.now c.remove_beside.result
    c.args.folder.now c.loop-index.folder c.remove_beside.new.self c.loop-index-test.true c.index-names-index.is c.as_str.ensures c.loop-index.invariant
    c.remove_beside.ensures.done c.remove_beside.ensures.fault c.remove_beside.ensures.time c.remove_beside.ensures.cause.later
