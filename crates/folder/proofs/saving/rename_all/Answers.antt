use Rattle.std.proofs.Common.{ap, subst}
use Rattle.folder.specs.Calls.{Elapses, Follows, IsDone, IsDoneOrNot}
use Rattle.folder.specs.Held.{renamed}
use Rattle.folder.specs.Tied.Steps.{rename_file}
use Rattle.folder.proofs.Turns.{changes_back, changes_none, changes_on, staged_on}
use Rattle.folder.proofs.saving.rename_all.Goals as goal

pub loop-index-preserved : goal.loop-index-preserved
loop-index-preserved g c =
    let time = subst (λ n. Elapses g.F.Folder.moment g.F.Folder.left_since g.F.Folder.may_leave (IsDoneOrNot (renamed n)) c.loop-index.folder c.rename.new.self) (ap (λ f. f.name) c.file.view_is) c.rename.ensures.time in
    let done = subst (λ n. Follows g.F.Folder.held g.F.Folder.may_leave (IsDone (renamed n)) c.loop-index.folder c.rename.new.self) (ap (λ f. f.name) c.file.view_is) c.in_default.ensures.done in
    record {
      ran = changes_on g.F.Folder.held g.F.Folder.may_leave g.F.Folder.moment g.F.Folder.left_since g.F.Folder.faults c.args.files.now c.args.is_untouched rename_file c.args.files.now c.loop-index.index c.index-files-index.result c.loop-index-test.true c.index-files-index.is
          c.args.folder.now c.loop-index.folder c.rename.new.self c.loop-index.invariant.ran done time c.rename.ensures.cause.later;
      staged = staged_on g.F.Folder.held g.F.Folder.may_leave g.F.Folder.moment g.F.Folder.left_since g.F.Folder.faults c.args.files.now c.loop-index.index c.index-files-index.result c.file.inside.name.now c.loop-index.folder c.rename.new.self c.loop-index-test.true c.index-files-index.is
          (ap (λ f. f.name) c.file.view_is) c.loop-index.invariant.staged c.in_default.ensures.done;
    }

pub returns-else-index-eq0-clause-fault : goal.returns-else-index-eq0-clause-fault
returns-else-index-eq0-clause-fault g c =
    let time = subst (λ n. Elapses g.F.Folder.moment g.F.Folder.left_since g.F.Folder.may_leave (IsDoneOrNot (renamed n)) c.loop-index.folder c.rename.new.self) (ap (λ f. f.name) c.file.view_is) c.rename.ensures.time in
    (changes_none g.F.Folder.held g.F.Folder.may_leave g.F.Folder.moment g.F.Folder.left_since g.F.Folder.faults c.args.files.now c.args.is_untouched rename_file c.args.files.now c.loop-index.index c.index-files-index.result c.loop-index-test.true c.index-files-index.is
    c.args.folder.now c.loop-index.folder c.rename.new.self c.loop-index.invariant.ran c.in-Err.ensures.fault time c.rename.ensures.cause.later).follows

pub returns-else-index-eq0-clause-any_moment : goal.returns-else-index-eq0-clause-any_moment
returns-else-index-eq0-clause-any_moment g c =
    let time = subst (λ n. Elapses g.F.Folder.moment g.F.Folder.left_since g.F.Folder.may_leave (IsDoneOrNot (renamed n)) c.loop-index.folder c.rename.new.self) (ap (λ f. f.name) c.file.view_is) c.rename.ensures.time in
    (changes_none g.F.Folder.held g.F.Folder.may_leave g.F.Folder.moment g.F.Folder.left_since g.F.Folder.faults c.args.files.now c.args.is_untouched rename_file c.args.files.now c.loop-index.index c.index-files-index.result c.loop-index-test.true c.index-files-index.is
    c.args.folder.now c.loop-index.folder c.rename.new.self c.loop-index.invariant.ran c.in-Err.ensures.fault time c.rename.ensures.cause.later).moments

pub returns-then-is_untouched-clause-fault : goal.returns-then-is_untouched-clause-fault
returns-then-is_untouched-clause-fault g c =
    let time = subst (λ n. Elapses g.F.Folder.moment g.F.Folder.left_since g.F.Folder.may_leave (IsDoneOrNot (renamed n)) c.loop-index.folder c.rename.new.self) (ap (λ f. f.name) c.file.view_is) c.rename.ensures.time in
    (changes_back g.F.Folder.held g.F.Folder.may_leave g.F.Folder.moment g.F.Folder.left_since g.F.Folder.faults c.args.files.now c.args.is_untouched rename_file c.args.files.now c.loop-index.index c.index-files-index.result c.loop-index-test.true c.index-files-index.is
    c.if-index-eq0.true c.if-is_untouched.true c.args.folder.now c.loop-index.folder c.rename.new.self c.clear_beside.new.folder c.loop-index.invariant.ran c.in-Err.ensures.fault time c.rename.ensures.cause.later
    c.clear_beside.ensures.beside c.clear_beside.ensures.any_moment c.clear_beside.ensures.faults).follows

pub returns-then-is_untouched-clause-any_moment : goal.returns-then-is_untouched-clause-any_moment
returns-then-is_untouched-clause-any_moment g c =
    let time = subst (λ n. Elapses g.F.Folder.moment g.F.Folder.left_since g.F.Folder.may_leave (IsDoneOrNot (renamed n)) c.loop-index.folder c.rename.new.self) (ap (λ f. f.name) c.file.view_is) c.rename.ensures.time in
    (changes_back g.F.Folder.held g.F.Folder.may_leave g.F.Folder.moment g.F.Folder.left_since g.F.Folder.faults c.args.files.now c.args.is_untouched rename_file c.args.files.now c.loop-index.index c.index-files-index.result c.loop-index-test.true c.index-files-index.is
    c.if-index-eq0.true c.if-is_untouched.true c.args.folder.now c.loop-index.folder c.rename.new.self c.clear_beside.new.folder c.loop-index.invariant.ran c.in-Err.ensures.fault time c.rename.ensures.cause.later
    c.clear_beside.ensures.beside c.clear_beside.ensures.any_moment c.clear_beside.ensures.faults).moments
