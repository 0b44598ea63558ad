use Rattle.std.proofs.Common.{◌≡◌, true, [], length, sym, ◌∙◌}
use Rattle.std.specs.Cmp.{unsigned_Decides}
use Rattle.folder.proofs.Names.{at_fault}
use Rattle.folder.proofs.Runs.{none_there}
use Rattle.folder.proofs.WholeSaves.{ready, removed_all, removing, renamed_all, renaming, staged_all, staging}
use Rattle.folder.proofs.saving.save.Goals as goal

pub returns-in_err-stage_all-clause-fault : goal.returns-in_err-stage_all-clause-fault
returns-in_err-stage_all-clause-fault g c = at_fault c.from_residual.result _ (staging g.F.Folder.held g.F.Folder.may_leave g.F.Folder.moment g.F.Folder.left_since g.F.Folder.faults g.met.F.Folder.only_now c.args.files.now c.args.going.now c.args.folder.now c.stage_all.new.folder c.in_err-stage_all.ensures.fault c.stage_all.ensures.any_moment c.stage_all.ensures.cause.later).follows

pub returns-in_err-stage_all-clause-any_moment : goal.returns-in_err-stage_all-clause-any_moment
returns-in_err-stage_all-clause-any_moment g c = (staging g.F.Folder.held g.F.Folder.may_leave g.F.Folder.moment g.F.Folder.left_since g.F.Folder.faults g.met.F.Folder.only_now c.args.files.now c.args.going.now c.args.folder.now c.stage_all.new.folder c.in_err-stage_all.ensures.fault c.stage_all.ensures.any_moment c.stage_all.ensures.cause.later).moments

pub returns-in_err-remove_all-clause-fault : goal.returns-in_err-remove_all-clause-fault
returns-in_err-remove_all-clause-fault g c =
    let staged = staged_all g.F.Folder.held g.F.Folder.may_leave g.F.Folder.moment g.F.Folder.left_since g.F.Folder.faults g.met.F.Folder.only_now c.args.files.now c.args.going.now c.args.folder.now c.stage_all.new.folder c.in_ok-stage_all.ensures.done c.stage_all.ensures.any_moment c.stage_all.ensures.cause.later in
    at_fault c.from_residual-in_err-remove_all.result _ (removing g.F.Folder.held g.F.Folder.may_leave g.F.Folder.moment g.F.Folder.left_since g.F.Folder.faults g.met.F.Folder.only_now c.args.files.now c.args.going.now c.requires c.args.folder.now c.stage_all.new.folder c.remove_all.new.folder staged c.in_err-remove_all.ensures.fault c.remove_all.ensures.any_moment c.remove_all.ensures.cause.later).follows

pub returns-in_err-remove_all-clause-any_moment : goal.returns-in_err-remove_all-clause-any_moment
returns-in_err-remove_all-clause-any_moment g c =
    let staged = staged_all g.F.Folder.held g.F.Folder.may_leave g.F.Folder.moment g.F.Folder.left_since g.F.Folder.faults g.met.F.Folder.only_now c.args.files.now c.args.going.now c.args.folder.now c.stage_all.new.folder c.in_ok-stage_all.ensures.done c.stage_all.ensures.any_moment c.stage_all.ensures.cause.later in
    (removing g.F.Folder.held g.F.Folder.may_leave g.F.Folder.moment g.F.Folder.left_since g.F.Folder.faults g.met.F.Folder.only_now c.args.files.now c.args.going.now c.requires c.args.folder.now c.stage_all.new.folder c.remove_all.new.folder staged c.in_err-remove_all.ensures.fault c.remove_all.ensures.any_moment c.remove_all.ensures.cause.later).moments

pub rename_all-requires : goal.rename_all-requires
rename_all-requires g c =
    let staged = staged_all g.F.Folder.held g.F.Folder.may_leave g.F.Folder.moment g.F.Folder.left_since g.F.Folder.faults g.met.F.Folder.only_now c.args.files.now c.args.going.now c.args.folder.now c.stage_all.new.folder c.in_ok-stage_all.ensures.done c.stage_all.ensures.any_moment c.stage_all.ensures.cause.later in
    ready g.F.Folder.held g.F.Folder.may_leave g.F.Folder.moment g.F.Folder.left_since g.F.Folder.faults g.met.F.Folder.only_now c.args.files.now c.args.going.now c.requires c.args.folder.now c.remove_all.new.folder (removed_all g.F.Folder.held g.F.Folder.may_leave g.F.Folder.moment g.F.Folder.left_since g.F.Folder.faults g.met.F.Folder.only_now c.args.files.now c.args.going.now c.requires c.args.folder.now c.stage_all.new.folder c.remove_all.new.folder staged c.in_ok-remove_all.ensures.done c.remove_all.ensures.any_moment c.remove_all.ensures.cause.later)

pub returns-in_err-rename_all-clause-fault : goal.returns-in_err-rename_all-clause-fault
returns-in_err-rename_all-clause-fault g c =
    let staged = staged_all g.F.Folder.held g.F.Folder.may_leave g.F.Folder.moment g.F.Folder.left_since g.F.Folder.faults g.met.F.Folder.only_now c.args.files.now c.args.going.now c.args.folder.now c.stage_all.new.folder c.in_ok-stage_all.ensures.done c.stage_all.ensures.any_moment c.stage_all.ensures.cause.later in
    let ready_all = removed_all g.F.Folder.held g.F.Folder.may_leave g.F.Folder.moment g.F.Folder.left_since g.F.Folder.faults g.met.F.Folder.only_now c.args.files.now c.args.going.now c.requires c.args.folder.now c.stage_all.new.folder c.remove_all.new.folder staged c.in_ok-remove_all.ensures.done c.remove_all.ensures.any_moment c.remove_all.ensures.cause.later in
    let none : c.is_empty.result ≡ true → c.args.going.now ≡ [] = λ is. none_there c.args.going.now ((unsigned_Decides (length c.args.going.now) 0).0 (sym c.is_empty.ensures ∙ is)) in
    at_fault c.from_residual-in_err-rename_all.result _ (renaming g.F.Folder.held g.F.Folder.may_leave g.F.Folder.moment g.F.Folder.left_since g.F.Folder.faults g.met.F.Folder.only_now c.args.files.now c.args.going.now c.requires c.is_empty.result none c.args.folder.now c.remove_all.new.folder c.rename_all.new.folder ready_all c.in_err-rename_all.ensures.fault c.rename_all.ensures.any_moment c.rename_all.ensures.cause.later).follows

pub returns-in_err-rename_all-clause-any_moment : goal.returns-in_err-rename_all-clause-any_moment
returns-in_err-rename_all-clause-any_moment g c =
    let staged = staged_all g.F.Folder.held g.F.Folder.may_leave g.F.Folder.moment g.F.Folder.left_since g.F.Folder.faults g.met.F.Folder.only_now c.args.files.now c.args.going.now c.args.folder.now c.stage_all.new.folder c.in_ok-stage_all.ensures.done c.stage_all.ensures.any_moment c.stage_all.ensures.cause.later in
    let ready_all = removed_all g.F.Folder.held g.F.Folder.may_leave g.F.Folder.moment g.F.Folder.left_since g.F.Folder.faults g.met.F.Folder.only_now c.args.files.now c.args.going.now c.requires c.args.folder.now c.stage_all.new.folder c.remove_all.new.folder staged c.in_ok-remove_all.ensures.done c.remove_all.ensures.any_moment c.remove_all.ensures.cause.later in
    let none : c.is_empty.result ≡ true → c.args.going.now ≡ [] = λ is. none_there c.args.going.now ((unsigned_Decides (length c.args.going.now) 0).0 (sym c.is_empty.ensures ∙ is)) in
    (renaming g.F.Folder.held g.F.Folder.may_leave g.F.Folder.moment g.F.Folder.left_since g.F.Folder.faults g.met.F.Folder.only_now c.args.files.now c.args.going.now c.requires c.is_empty.result none c.args.folder.now c.remove_all.new.folder c.rename_all.new.folder ready_all c.in_err-rename_all.ensures.fault c.rename_all.ensures.any_moment c.rename_all.ensures.cause.later).moments

pub returns-clause-saved : goal.returns-clause-saved
returns-clause-saved g c =
    let staged = staged_all g.F.Folder.held g.F.Folder.may_leave g.F.Folder.moment g.F.Folder.left_since g.F.Folder.faults g.met.F.Folder.only_now c.args.files.now c.args.going.now c.args.folder.now c.stage_all.new.folder c.in_ok-stage_all.ensures.done c.stage_all.ensures.any_moment c.stage_all.ensures.cause.later in
    let ready_all = removed_all g.F.Folder.held g.F.Folder.may_leave g.F.Folder.moment g.F.Folder.left_since g.F.Folder.faults g.met.F.Folder.only_now c.args.files.now c.args.going.now c.requires c.args.folder.now c.stage_all.new.folder c.remove_all.new.folder staged c.in_ok-remove_all.ensures.done c.remove_all.ensures.any_moment c.remove_all.ensures.cause.later in
    let none : c.is_empty.result ≡ true → c.args.going.now ≡ [] = λ is. none_there c.args.going.now ((unsigned_Decides (length c.args.going.now) 0).0 (sym c.is_empty.ensures ∙ is)) in
    (renamed_all g.F.Folder.held g.F.Folder.may_leave g.F.Folder.moment g.F.Folder.left_since g.F.Folder.faults g.met.F.Folder.only_now c.args.files.now c.args.going.now c.requires c.is_empty.result none c.args.folder.now c.remove_all.new.folder c.rename_all.new.folder ready_all c.in_ok-rename_all.ensures.done c.rename_all.ensures.any_moment c.rename_all.ensures.cause.later).follows

pub returns-clause-any_moment : goal.returns-clause-any_moment
returns-clause-any_moment g c =
    let staged = staged_all g.F.Folder.held g.F.Folder.may_leave g.F.Folder.moment g.F.Folder.left_since g.F.Folder.faults g.met.F.Folder.only_now c.args.files.now c.args.going.now c.args.folder.now c.stage_all.new.folder c.in_ok-stage_all.ensures.done c.stage_all.ensures.any_moment c.stage_all.ensures.cause.later in
    let ready_all = removed_all g.F.Folder.held g.F.Folder.may_leave g.F.Folder.moment g.F.Folder.left_since g.F.Folder.faults g.met.F.Folder.only_now c.args.files.now c.args.going.now c.requires c.args.folder.now c.stage_all.new.folder c.remove_all.new.folder staged c.in_ok-remove_all.ensures.done c.remove_all.ensures.any_moment c.remove_all.ensures.cause.later in
    let none : c.is_empty.result ≡ true → c.args.going.now ≡ [] = λ is. none_there c.args.going.now ((unsigned_Decides (length c.args.going.now) 0).0 (sym c.is_empty.ensures ∙ is)) in
    (renamed_all g.F.Folder.held g.F.Folder.may_leave g.F.Folder.moment g.F.Folder.left_since g.F.Folder.faults g.met.F.Folder.only_now c.args.files.now c.args.going.now c.requires c.is_empty.result none c.args.folder.now c.remove_all.new.folder c.rename_all.new.folder ready_all c.in_ok-rename_all.ensures.done c.rename_all.ensures.any_moment c.rename_all.ensures.cause.later).moments
