use Rattle.std.proofs.Common.{subst}
use Rattle.folder.specs.Calls.{Elapses, Follows, IsDone, IsDoneOrNot}
use Rattle.folder.specs.Held.{renamed}
use Rattle.folder.proofs.Names.{at_fault}
use Rattle.folder.proofs.RepairTurns.{beside_first, beside_on, steps_none, steps_on}
use Rattle.folder.proofs.repair.rename_names.Goals as goal

pub rename-requires : goal.rename-requires
rename-requires g c = beside_first c.args.names.now c.loop-index.index c.index-names-index.result c.as_str.result.now c.loop-index-test.true c.index-names-index.is c.as_str.ensures (g.F.Folder.held c.loop-index.folder) c.loop-index.invariant.beside

pub loop-index-preserved : goal.loop-index-preserved
loop-index-preserved g c =
    let time = subst (λ n. Elapses g.F.Folder.moment g.F.Folder.left_since g.F.Folder.may_leave (IsDoneOrNot (renamed n)) c.loop-index.folder c.rename.new.self) c.as_str.ensures c.rename.ensures.time in
    let done = subst (λ n. Follows g.F.Folder.held g.F.Folder.may_leave (IsDone (renamed n)) c.loop-index.folder c.rename.new.self) c.as_str.ensures c.in_ok-rename.ensures.done in
    record {
      ran = steps_on g.F.Folder.held g.F.Folder.may_leave g.F.Folder.moment g.F.Folder.left_since g.F.Folder.faults renamed c.args.names.now c.loop-index.index c.index-names-index.result c.loop-index-test.true c.index-names-index.is
          c.args.folder.now c.loop-index.folder c.rename.new.self c.loop-index.invariant.ran done time c.rename.ensures.cause.later;
      beside = beside_on c.args.names.now c.loop-index.index c.index-names-index.result g.F.Folder.held g.F.Folder.may_leave c.loop-index-test.true c.index-names-index.is c.loop-index.folder c.rename.new.self c.loop-index.invariant.beside done;
    }

pub returns-in_err-rename-clause-fault : goal.returns-in_err-rename-clause-fault
returns-in_err-rename-clause-fault g c =
    let time = subst (λ n. Elapses g.F.Folder.moment g.F.Folder.left_since g.F.Folder.may_leave (IsDoneOrNot (renamed n)) c.loop-index.folder c.rename.new.self) c.as_str.ensures c.rename.ensures.time in
    at_fault c.from_residual.result _ (steps_none g.F.Folder.held g.F.Folder.may_leave g.F.Folder.moment g.F.Folder.left_since g.F.Folder.faults renamed c.args.names.now c.loop-index.index c.index-names-index.result c.loop-index-test.true c.index-names-index.is
    c.args.folder.now c.loop-index.folder c.rename.new.self c.loop-index.invariant.ran c.in_err-rename.ensures.fault time c.rename.ensures.cause.later).follows

pub returns-in_err-rename-clause-any_moment : goal.returns-in_err-rename-clause-any_moment
returns-in_err-rename-clause-any_moment g c =
    let time = subst (λ n. Elapses g.F.Folder.moment g.F.Folder.left_since g.F.Folder.may_leave (IsDoneOrNot (renamed n)) c.loop-index.folder c.rename.new.self) c.as_str.ensures c.rename.ensures.time in
    (steps_none g.F.Folder.held g.F.Folder.may_leave g.F.Folder.moment g.F.Folder.left_since g.F.Folder.faults renamed c.args.names.now c.loop-index.index c.index-names-index.result c.loop-index-test.true c.index-names-index.is
    c.args.folder.now c.loop-index.folder c.rename.new.self c.loop-index.invariant.ran c.in_err-rename.ensures.fault time c.rename.ensures.cause.later).moments
