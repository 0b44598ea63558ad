use Rattle.std.proofs.Common.{true, refl, subst}
use Rattle.folder.specs.Calls.{Elapses, Follows, IsDone, IsDoneOrNot}
use Rattle.folder.specs.Held.{removed}
use Rattle.folder.proofs.Turns.{changes_back, changes_none, changes_on}
use Rattle.folder.proofs.saving.remove_all.Goals as goal

pub loop-index-preserved : goal.loop-index-preserved
loop-index-preserved g c =
    let time = subst (λ n. Elapses g.F.Folder.moment g.F.Folder.left_since g.F.Folder.may_leave (IsDoneOrNot (removed n)) c.loop-index.folder c.remove.new.self) c.as_str.ensures c.remove.ensures.time in
    let done = subst (λ n. Follows g.F.Folder.held g.F.Folder.may_leave (IsDone (removed n)) c.loop-index.folder c.remove.new.self) c.as_str.ensures c.in_default.ensures.done in
    changes_on g.F.Folder.held g.F.Folder.may_leave g.F.Folder.moment g.F.Folder.left_since g.F.Folder.faults c.args.files.now true removed c.args.going.now c.loop-index.index c.index-going-index.result c.loop-index-test.true c.index-going-index.is
    c.args.folder.now c.loop-index.folder c.remove.new.self c.loop-index.invariant done time c.remove.ensures.cause.later

pub returns-else-index-eq0-clause-fault : goal.returns-else-index-eq0-clause-fault
returns-else-index-eq0-clause-fault g c =
    let time = subst (λ n. Elapses g.F.Folder.moment g.F.Folder.left_since g.F.Folder.may_leave (IsDoneOrNot (removed n)) c.loop-index.folder c.remove.new.self) c.as_str.ensures c.remove.ensures.time in
    (changes_none g.F.Folder.held g.F.Folder.may_leave g.F.Folder.moment g.F.Folder.left_since g.F.Folder.faults c.args.files.now true removed c.args.going.now c.loop-index.index c.index-going-index.result c.loop-index-test.true c.index-going-index.is
    c.args.folder.now c.loop-index.folder c.remove.new.self c.loop-index.invariant c.in-Err.ensures.fault time c.remove.ensures.cause.later).follows

pub returns-else-index-eq0-clause-any_moment : goal.returns-else-index-eq0-clause-any_moment
returns-else-index-eq0-clause-any_moment g c =
    let time = subst (λ n. Elapses g.F.Folder.moment g.F.Folder.left_since g.F.Folder.may_leave (IsDoneOrNot (removed n)) c.loop-index.folder c.remove.new.self) c.as_str.ensures c.remove.ensures.time in
    (changes_none g.F.Folder.held g.F.Folder.may_leave g.F.Folder.moment g.F.Folder.left_since g.F.Folder.faults c.args.files.now true removed c.args.going.now c.loop-index.index c.index-going-index.result c.loop-index-test.true c.index-going-index.is
    c.args.folder.now c.loop-index.folder c.remove.new.self c.loop-index.invariant c.in-Err.ensures.fault time c.remove.ensures.cause.later).moments

pub returns-then-index-eq0-clause-fault : goal.returns-then-index-eq0-clause-fault
returns-then-index-eq0-clause-fault g c =
    let time = subst (λ n. Elapses g.F.Folder.moment g.F.Folder.left_since g.F.Folder.may_leave (IsDoneOrNot (removed n)) c.loop-index.folder c.remove.new.self) c.as_str.ensures c.remove.ensures.time in
    (changes_back g.F.Folder.held g.F.Folder.may_leave g.F.Folder.moment g.F.Folder.left_since g.F.Folder.faults c.args.files.now true removed c.args.going.now c.loop-index.index c.index-going-index.result c.loop-index-test.true c.index-going-index.is
    c.if-index-eq0.true refl c.args.folder.now c.loop-index.folder c.remove.new.self c.clear_beside.new.folder c.loop-index.invariant c.in-Err.ensures.fault time c.remove.ensures.cause.later
    c.clear_beside.ensures.beside c.clear_beside.ensures.any_moment c.clear_beside.ensures.faults).follows

pub returns-then-index-eq0-clause-any_moment : goal.returns-then-index-eq0-clause-any_moment
returns-then-index-eq0-clause-any_moment g c =
    let time = subst (λ n. Elapses g.F.Folder.moment g.F.Folder.left_since g.F.Folder.may_leave (IsDoneOrNot (removed n)) c.loop-index.folder c.remove.new.self) c.as_str.ensures c.remove.ensures.time in
    (changes_back g.F.Folder.held g.F.Folder.may_leave g.F.Folder.moment g.F.Folder.left_since g.F.Folder.faults c.args.files.now true removed c.args.going.now c.loop-index.index c.index-going-index.result c.loop-index-test.true c.index-going-index.is
    c.if-index-eq0.true refl c.args.folder.now c.loop-index.folder c.remove.new.self c.clear_beside.new.folder c.loop-index.invariant c.in-Err.ensures.fault time c.remove.ensures.cause.later
    c.clear_beside.ensures.beside c.clear_beside.ensures.any_moment c.clear_beside.ensures.faults).moments
