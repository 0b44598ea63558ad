use Rattle.std.proofs.Common.{ap}
use Rattle.folder.proofs.Turns.{stages_none, stages_on}
use Rattle.folder.proofs.saving.stage_all.Goals as goal

pub loop-index-preserved : goal.loop-index-preserved
loop-index-preserved g c =
    stages_on g.F.Folder.held g.F.Folder.may_leave g.F.Folder.moment g.F.Folder.left_since g.F.Folder.faults c.args.files.now c.loop-index.index c.index-files-index.result c.file.inside.name.now c.file.inside.bytes.now
    c.args.folder.now c.loop-index.folder c.stage.new.self c.loop-index-test.true c.index-files-index.is (ap (λ f. f.name) c.file.view_is) (ap (λ f. f.bytes) c.file.view_is) c.loop-index.invariant
    c.in_default.ensures.done c.stage.ensures.time c.stage.ensures.cause.later

pub returns-in-Err-clause-fault : goal.returns-in-Err-clause-fault
returns-in-Err-clause-fault g c =
    (stages_none g.F.Folder.held g.F.Folder.may_leave g.F.Folder.moment g.F.Folder.left_since g.F.Folder.faults c.args.files.now c.loop-index.index c.index-files-index.result c.file.inside.name.now
    c.args.folder.now c.loop-index.folder c.stage.new.self c.clear_beside.new.folder c.loop-index-test.true c.index-files-index.is (ap (λ f. f.name) c.file.view_is) c.loop-index.invariant
    c.in-Err.ensures.fault c.stage.ensures.time c.stage.ensures.cause.later c.clear_beside.ensures.beside c.clear_beside.ensures.any_moment c.clear_beside.ensures.faults).follows

pub returns-in-Err-clause-any_moment : goal.returns-in-Err-clause-any_moment
returns-in-Err-clause-any_moment g c =
    (stages_none g.F.Folder.held g.F.Folder.may_leave g.F.Folder.moment g.F.Folder.left_since g.F.Folder.faults c.args.files.now c.loop-index.index c.index-files-index.result c.file.inside.name.now
    c.args.folder.now c.loop-index.folder c.stage.new.self c.clear_beside.new.folder c.loop-index-test.true c.index-files-index.is (ap (λ f. f.name) c.file.view_is) c.loop-index.invariant
    c.in-Err.ensures.fault c.stage.ensures.time c.stage.ensures.cause.later c.clear_beside.ensures.beside c.clear_beside.ensures.any_moment c.clear_beside.ensures.faults).moments
