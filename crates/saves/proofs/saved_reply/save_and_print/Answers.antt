use Rattle.std.proofs.Common.{◌∙◌, sym, subst}
use Rattle.files.specs.Places.{AreInPlace, AreKnown, bytes_read}
use Rattle.files.proofs.FolderRuns.{all_less}
use Rattle.files.proofs.StandingFiles.{known}
use Rattle.folder.specs.Calls.{Ran}
use Rattle.commands.specs.Replies.{is_accepted}
use Rattle.saves.specs.Called.{IsFaultOfSaving, LeavesFor}
use Rattle.saves.specs.Tied.Applying.{IsSavingFor}
use Rattle.saves.proofs.CallRuns.{fault_of_print, fault_of_saving, not_ok, nothing_is_being_saved, told_of, was_being_saved, was_left, was_saved}
use Rattle.saves.proofs.saved_reply.save_and_print.Goals as goal
use Rattle.saves.proofs.saved_reply.save_and_print.Goals.{then-is_accepted+in_ok-rewrite, else-is_accepted}

pub rewrite-requires : goal.rewrite-requires
rewrite-requires g c =
    all_less g.F.Folder.held g.F.Folder.may_leave g.F.Folder.moment g.F.Folder.left_since g.F.Folder.faults (λ h. AreInPlace h (bytes_read c.args.files.now)) (λ h. AreKnown h (bytes_read c.args.files.now))
    (λ h. known h (bytes_read c.args.files.now)) c.args.folder.now c.requires

-- the save fails
pub returns-in_err-rewrite-clause-said : goal.returns-in_err-rewrite-clause-said
returns-in_err-rewrite-clause-said g c = not_ok c.from_residual.result _ _ c.from_residual.ensures.1

pub returns-in_err-rewrite-clause-left : goal.returns-in_err-rewrite-clause-left
returns-in_err-rewrite-clause-left g c = not_ok c.from_residual.result _ _ c.from_residual.ensures.1

pub returns-in_err-rewrite-clause-any_moment : goal.returns-in_err-rewrite-clause-any_moment
returns-in_err-rewrite-clause-any_moment g c =
    was_being_saved g.F.Folder.held g.F.Folder.may_leave g.F.Folder.moment g.F.Folder.left_since g.F.Folder.faults (is_accepted c.args.reply.now) c.args.files.now c.args.session.now
    (sym c.is_accepted.ensures ∙ c.if-is_accepted.true) c.args.folder.now c.rewrite.new.folder c.rewrite.ensures.any_moment

pub returns-in_err-rewrite-clause-fault : goal.returns-in_err-rewrite-clause-fault
returns-in_err-rewrite-clause-fault g c =
    told_of c.from_residual.result _ IsFaultOfSaving c.from_residual.ensures.1 (λ stop is. subst IsFaultOfSaving (sym is) (fault_of_saving c.in_err-rewrite.field-0.0 c.in_err-rewrite.ensures.fault))

-- the reply isn't printed
pub returns-in_err-print-clause-said : goal.returns-in_err-print-clause-said
returns-in_err-print-clause-said g c = not_ok c.from_residual-in_err-print.result _ _ c.from_residual-in_err-print.ensures.1

pub returns-in_err-print-clause-left : goal.returns-in_err-print-clause-left
returns-in_err-print-clause-left g c = not_ok c.from_residual-in_err-print.result _ _ c.from_residual-in_err-print.ensures.1

pub returns-in_err-print-clause-any_moment : goal.returns-in_err-print-clause-any_moment
returns-in_err-print-clause-any_moment g c =
    let Saving = IsSavingFor (is_accepted c.args.reply.now) c.args.files.now c.args.session.now in
    elim c.if-is_accepted.branch [
      | then-is_accepted+in_ok-rewrite w ↦
          subst (λ f. Ran g.F.Folder.held g.F.Folder.may_leave g.F.Folder.moment g.F.Folder.left_since g.F.Folder.faults Saving Saving c.args.folder.now f) (sym w.folder-is) (was_being_saved g.F.Folder.held g.F.Folder.may_leave g.F.Folder.moment g.F.Folder.left_since g.F.Folder.faults (is_accepted c.args.reply.now) c.args.files.now c.args.session.now
          (sym c.is_accepted.ensures ∙ w.if-is_accepted.true) c.args.folder.now w.rewrite.new.folder w.rewrite.ensures.any_moment)
      | else-is_accepted w ↦
          subst (λ f. Ran g.F.Folder.held g.F.Folder.may_leave g.F.Folder.moment g.F.Folder.left_since g.F.Folder.faults Saving Saving c.args.folder.now f) (sym w.folder-is) (nothing_is_being_saved g.F.Folder.held g.F.Folder.may_leave g.F.Folder.moment g.F.Folder.left_since g.F.Folder.faults (is_accepted c.args.reply.now) c.args.files.now c.args.session.now
          c.args.folder.now (λ d left. g.met.F.Folder.only_now c.args.folder.now d left))
    ]

pub returns-in_err-print-clause-fault : goal.returns-in_err-print-clause-fault
returns-in_err-print-clause-fault g c =
    told_of c.from_residual-in_err-print.result _ IsFaultOfSaving c.from_residual-in_err-print.ensures.1 (λ stop is. subst IsFaultOfSaving (sym is) (fault_of_print c.in_err-print.field-0.0 c.in_err-print.ensures.fault))

-- it is
pub returns-clause-said : goal.returns-clause-said
returns-clause-said g c = c.in_ok-print.ensures.bytes

pub returns-clause-left : goal.returns-clause-left
returns-clause-left g c =
    elim c.if-is_accepted.branch [
      | then-is_accepted+in_ok-rewrite w ↦
          subst (λ f. Ran g.F.Folder.held g.F.Folder.may_leave g.F.Folder.moment g.F.Folder.left_since g.F.Folder.faults (LeavesFor (is_accepted c.args.reply.now) c.args.files.now c.args.session.now) (IsSavingFor (is_accepted c.args.reply.now) c.args.files.now c.args.session.now) c.args.folder.now f) (sym w.folder-is) (was_saved g.F.Folder.held g.F.Folder.may_leave g.F.Folder.moment g.F.Folder.left_since g.F.Folder.faults (is_accepted c.args.reply.now) c.args.files.now c.args.session.now
          (sym c.is_accepted.ensures ∙ w.if-is_accepted.true) c.args.folder.now w.rewrite.new.folder w.in_ok-rewrite.ensures.saved)
      | else-is_accepted w ↦
          subst (λ f. Ran g.F.Folder.held g.F.Folder.may_leave g.F.Folder.moment g.F.Folder.left_since g.F.Folder.faults (LeavesFor (is_accepted c.args.reply.now) c.args.files.now c.args.session.now) (IsSavingFor (is_accepted c.args.reply.now) c.args.files.now c.args.session.now) c.args.folder.now f) (sym w.folder-is) (was_left g.F.Folder.held g.F.Folder.may_leave g.F.Folder.moment g.F.Folder.left_since g.F.Folder.faults (is_accepted c.args.reply.now) c.args.files.now c.args.session.now
          (sym c.is_accepted.ensures ∙ w.if-is_accepted.false) c.args.folder.now (λ d left. g.met.F.Folder.only_now c.args.folder.now d left))
    ]

pub returns-clause-any_moment : goal.returns-clause-any_moment
returns-clause-any_moment g c =
    let Saving = IsSavingFor (is_accepted c.args.reply.now) c.args.files.now c.args.session.now in
    elim c.if-is_accepted.branch [
      | then-is_accepted+in_ok-rewrite w ↦
          subst (λ f. Ran g.F.Folder.held g.F.Folder.may_leave g.F.Folder.moment g.F.Folder.left_since g.F.Folder.faults Saving Saving c.args.folder.now f) (sym w.folder-is) (was_being_saved g.F.Folder.held g.F.Folder.may_leave g.F.Folder.moment g.F.Folder.left_since g.F.Folder.faults (is_accepted c.args.reply.now) c.args.files.now c.args.session.now
          (sym c.is_accepted.ensures ∙ w.if-is_accepted.true) c.args.folder.now w.rewrite.new.folder w.rewrite.ensures.any_moment)
      | else-is_accepted w ↦
          subst (λ f. Ran g.F.Folder.held g.F.Folder.may_leave g.F.Folder.moment g.F.Folder.left_since g.F.Folder.faults Saving Saving c.args.folder.now f) (sym w.folder-is) (nothing_is_being_saved g.F.Folder.held g.F.Folder.may_leave g.F.Folder.moment g.F.Folder.left_since g.F.Folder.faults (is_accepted c.args.reply.now) c.args.files.now c.args.session.now
          c.args.folder.now (λ d left. g.met.F.Folder.only_now c.args.folder.now d left))
    ]
