use Rattle.std.proofs.Common.{◌≡◌, subst, ap, sym, ◌∙◌, IfSome}
use Rattle.folder.specs.Calls.{Follows, IsDone, LeavesOnly}
use Rattle.folder.specs.Held.{in_turn, removed, renamed}
use Rattle.folder.specs.Repairs.{AreBeside}
use Rattle.folder.specs.Tied.Steps.{IsOnTheWay}
use Rattle.folder.proofs.RepairRuns.{all_of, ended, ready, removing, renaming}
use Rattle.folder.proofs.repair.end_save.Goals as goal

pub rename_names-requires : goal.rename_names-requires
rename_names-requires g c =
    let going : c.as_slice.result.now ≡ c.args.left.now.going = c.as_slice.ensures ∙ ap (λ l. l.going) c.left.view_is in
    let done = subst (λ n. Follows g.F.Folder.held g.F.Folder.may_leave (IsDone (in_turn removed n)) c.args.folder.now c.remove_names.new.folder) going c.in_ok-remove_names.ensures.done in
    let names : c.as_slice-2.result.now ≡ c.args.left.now.names = c.as_slice-2.ensures ∙ ap (λ l. l.names) c.left.view_is in
    subst (λ n. IfSome (g.F.Folder.held c.remove_names.new.folder) (AreBeside n)) (sym names) (ready g.F.Folder.held g.F.Folder.may_leave g.F.Folder.moment g.F.Folder.left_since g.F.Folder.faults c.args.left.now c.args.folder.now c.remove_names.new.folder c.requires done)

pub returns-in_err-remove_names-clause-any : goal.returns-in_err-remove_names-clause-any
returns-in_err-remove_names-clause-any g c =
    let going : c.as_slice.result.now ≡ c.args.left.now.going = c.as_slice.ensures ∙ ap (λ l. l.going) c.left.view_is in
    let time = subst (λ n. LeavesOnly g.F.Folder.moment g.F.Folder.left_since g.F.Folder.may_leave (IsOnTheWay removed n) c.args.folder.now c.remove_names.new.folder) going c.remove_names.ensures.any_moment in
    let fault = subst (λ n. Follows g.F.Folder.held g.F.Folder.may_leave (IsOnTheWay removed n) c.args.folder.now c.remove_names.new.folder) going c.in_err-remove_names.ensures.fault in
    removing g.F.Folder.held g.F.Folder.may_leave g.F.Folder.moment g.F.Folder.left_since g.F.Folder.faults c.args.left.now c.args.folder.now c.remove_names.new.folder (record { follows = fault; moments = time; faults_rise = c.remove_names.ensures.cause.later })

pub returns-in_err-rename_names-clause-any : goal.returns-in_err-rename_names-clause-any
returns-in_err-rename_names-clause-any g c =
    let going : c.as_slice.result.now ≡ c.args.left.now.going = c.as_slice.ensures ∙ ap (λ l. l.going) c.left.view_is in
    let time = subst (λ n. LeavesOnly g.F.Folder.moment g.F.Folder.left_since g.F.Folder.may_leave (IsOnTheWay removed n) c.args.folder.now c.remove_names.new.folder) going c.remove_names.ensures.any_moment in
    let done = subst (λ n. Follows g.F.Folder.held g.F.Folder.may_leave (IsDone (in_turn removed n)) c.args.folder.now c.remove_names.new.folder) going c.in_ok-remove_names.ensures.done in
    let names : c.as_slice-2.result.now ≡ c.args.left.now.names = c.as_slice-2.ensures ∙ ap (λ l. l.names) c.left.view_is in
    let later = subst (λ n. LeavesOnly g.F.Folder.moment g.F.Folder.left_since g.F.Folder.may_leave (IsOnTheWay renamed n) c.remove_names.new.folder c.rename_names.new.folder) names c.rename_names.ensures.any_moment in
    let fault = subst (λ n. Follows g.F.Folder.held g.F.Folder.may_leave (IsOnTheWay renamed n) c.remove_names.new.folder c.rename_names.new.folder) names c.in_err-rename_names.ensures.fault in
    renaming g.F.Folder.held g.F.Folder.may_leave g.F.Folder.moment g.F.Folder.left_since g.F.Folder.faults c.args.left.now c.args.folder.now c.remove_names.new.folder c.rename_names.new.folder (record { follows = done; moments = time; faults_rise = c.remove_names.ensures.cause.later }) (record { follows = fault; moments = later; faults_rise = c.rename_names.ensures.cause.later })

pub returns-clause-done : goal.returns-clause-done
returns-clause-done g c =
    let going : c.as_slice.result.now ≡ c.args.left.now.going = c.as_slice.ensures ∙ ap (λ l. l.going) c.left.view_is in
    let time = subst (λ n. LeavesOnly g.F.Folder.moment g.F.Folder.left_since g.F.Folder.may_leave (IsOnTheWay removed n) c.args.folder.now c.remove_names.new.folder) going c.remove_names.ensures.any_moment in
    let done = subst (λ n. Follows g.F.Folder.held g.F.Folder.may_leave (IsDone (in_turn removed n)) c.args.folder.now c.remove_names.new.folder) going c.in_ok-remove_names.ensures.done in
    let names : c.as_slice-2.result.now ≡ c.args.left.now.names = c.as_slice-2.ensures ∙ ap (λ l. l.names) c.left.view_is in
    let later = subst (λ n. LeavesOnly g.F.Folder.moment g.F.Folder.left_since g.F.Folder.may_leave (IsOnTheWay renamed n) c.remove_names.new.folder c.rename_names.new.folder) names c.rename_names.ensures.any_moment in
    let last = subst (λ n. Follows g.F.Folder.held g.F.Folder.may_leave (IsDone (in_turn renamed n)) c.remove_names.new.folder c.rename_names.new.folder) names c.in_ok-rename_names.ensures.done in
    ended g.F.Folder.held g.F.Folder.may_leave g.F.Folder.moment g.F.Folder.left_since g.F.Folder.faults c.args.left.now c.args.folder.now c.remove_names.new.folder c.rename_names.new.folder (record { follows = done; moments = time; faults_rise = c.remove_names.ensures.cause.later }) (record { follows = last; moments = later; faults_rise = c.rename_names.ensures.cause.later })

pub returns-clause-any : goal.returns-clause-any
returns-clause-any g c =
    let going : c.as_slice.result.now ≡ c.args.left.now.going = c.as_slice.ensures ∙ ap (λ l. l.going) c.left.view_is in
    let time = subst (λ n. LeavesOnly g.F.Folder.moment g.F.Folder.left_since g.F.Folder.may_leave (IsOnTheWay removed n) c.args.folder.now c.remove_names.new.folder) going c.remove_names.ensures.any_moment in
    let done = subst (λ n. Follows g.F.Folder.held g.F.Folder.may_leave (IsDone (in_turn removed n)) c.args.folder.now c.remove_names.new.folder) going c.in_ok-remove_names.ensures.done in
    let names : c.as_slice-2.result.now ≡ c.args.left.now.names = c.as_slice-2.ensures ∙ ap (λ l. l.names) c.left.view_is in
    let later = subst (λ n. LeavesOnly g.F.Folder.moment g.F.Folder.left_since g.F.Folder.may_leave (IsOnTheWay renamed n) c.remove_names.new.folder c.rename_names.new.folder) names c.rename_names.ensures.any_moment in
    let last = subst (λ n. Follows g.F.Folder.held g.F.Folder.may_leave (IsDone (in_turn renamed n)) c.remove_names.new.folder c.rename_names.new.folder) names c.in_ok-rename_names.ensures.done in
    all_of g.F.Folder.held g.F.Folder.may_leave g.F.Folder.moment g.F.Folder.left_since g.F.Folder.faults c.args.left.now c.args.folder.now c.rename_names.new.folder
    (ended g.F.Folder.held g.F.Folder.may_leave g.F.Folder.moment g.F.Folder.left_since g.F.Folder.faults c.args.left.now c.args.folder.now c.remove_names.new.folder c.rename_names.new.folder (record { follows = done; moments = time; faults_rise = c.remove_names.ensures.cause.later }) (record { follows = last; moments = later; faults_rise = c.rename_names.ensures.cause.later }))
