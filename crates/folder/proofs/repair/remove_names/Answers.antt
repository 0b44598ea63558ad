use Rattle.std.proofs.Common.{subst}
use Rattle.folder.specs.Calls.{Elapses, Follows, IsDone, IsDoneOrNot}
use Rattle.folder.specs.Held.{removed}
use Rattle.folder.proofs.Names.{at_fault}
use Rattle.folder.proofs.RepairTurns.{steps_none, steps_on}
use Rattle.folder.proofs.repair.remove_names.Goals as goal

pub loop-index-preserved : goal.loop-index-preserved
loop-index-preserved g c =
    let time = subst (λ n. Elapses g.F.Folder.moment g.F.Folder.left_since g.F.Folder.may_leave (IsDoneOrNot (removed n)) c.loop-index.folder c.remove.new.self) c.as_str.ensures c.remove.ensures.time in
    let done = subst (λ n. Follows g.F.Folder.held g.F.Folder.may_leave (IsDone (removed n)) c.loop-index.folder c.remove.new.self) c.as_str.ensures c.in_ok-remove.ensures.done in
    steps_on g.F.Folder.held g.F.Folder.may_leave g.F.Folder.moment g.F.Folder.left_since g.F.Folder.faults removed c.args.going.now c.loop-index.index c.index-going-index.result c.loop-index-test.true c.index-going-index.is
    c.args.folder.now c.loop-index.folder c.remove.new.self c.loop-index.invariant done time c.remove.ensures.cause.later

pub returns-in_err-remove-clause-fault : goal.returns-in_err-remove-clause-fault
returns-in_err-remove-clause-fault g c =
    let time = subst (λ n. Elapses g.F.Folder.moment g.F.Folder.left_since g.F.Folder.may_leave (IsDoneOrNot (removed n)) c.loop-index.folder c.remove.new.self) c.as_str.ensures c.remove.ensures.time in
    at_fault c.from_residual.result _ (steps_none g.F.Folder.held g.F.Folder.may_leave g.F.Folder.moment g.F.Folder.left_since g.F.Folder.faults removed c.args.going.now c.loop-index.index c.index-going-index.result c.loop-index-test.true c.index-going-index.is
    c.args.folder.now c.loop-index.folder c.remove.new.self c.loop-index.invariant c.in_err-remove.ensures.fault time c.remove.ensures.cause.later).follows

pub returns-in_err-remove-clause-any_moment : goal.returns-in_err-remove-clause-any_moment
returns-in_err-remove-clause-any_moment g c =
    let time = subst (λ n. Elapses g.F.Folder.moment g.F.Folder.left_since g.F.Folder.may_leave (IsDoneOrNot (removed n)) c.loop-index.folder c.remove.new.self) c.as_str.ensures c.remove.ensures.time in
    (steps_none g.F.Folder.held g.F.Folder.may_leave g.F.Folder.moment g.F.Folder.left_since g.F.Folder.faults removed c.args.going.now c.loop-index.index c.index-going-index.result c.loop-index-test.true c.index-going-index.is
    c.args.folder.now c.loop-index.folder c.remove.new.self c.loop-index.invariant c.in_err-remove.ensures.fault time c.remove.ensures.cause.later).moments
