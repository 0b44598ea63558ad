use Rattle.std.proofs.Common.{ap}
use Rattle.folder.proofs.Turns.{clears_on}
use Rattle.folder.proofs.saving.clear_beside.Goals as goal

pub loop-index-preserved : goal.loop-index-preserved
loop-index-preserved g c =
    clears_on g.F.Folder.held g.F.Folder.may_leave g.F.Folder.moment g.F.Folder.left_since g.F.Folder.faults c.args.files.now c.loop-index.index c.index-files-index.result c.file.inside.name.now c.remove_beside.result
    c.args.folder.now c.loop-index.folder c.remove_beside.new.self c.loop-index-test.true c.index-files-index.is (ap (λ f. f.name) c.file.view_is) c.loop-index.invariant
    c.remove_beside.ensures.done c.remove_beside.ensures.fault c.remove_beside.ensures.time c.remove_beside.ensures.cause.later
