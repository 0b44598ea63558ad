use Rattle.std.proofs.Common.{◌∙◌, inl}
use Rattle.std.specs.Io.KnownBytes.{Appends}
use Rattle.files.proofs.FolderRuns.{if_err}
use Rattle.folder.proofs.Runs.{stays_at}
use Rattle.journal.specs.Commands.{asked_of}
use Rattle.saves.specs.Called.{IsFaultOfSaving}
use Rattle.saves.proofs.CallRuns.{applied, applying, not_applying, not_ok, or_else}
use Rattle.saves.proofs.edit.apply.Goals as goal

pub returns-in_err-before-clause-done : goal.returns-in_err-before-clause-done
returns-in_err-before-clause-done g c = not_ok c.from_residual.result _ _ c.from_residual.ensures.1

pub returns-in_err-before-clause-any_moment : goal.returns-in_err-before-clause-any_moment
returns-in_err-before-clause-any_moment g c =
    not_applying g.F.Folder.held g.F.Folder.may_leave g.F.Folder.moment g.F.Folder.left_since g.F.Folder.faults c.args.only_if_needed (asked_of c.args.command.now) c.args.files.now c.args.session.past c.args.folder.now (λ d left. g.met.F.Folder.only_now c.args.folder.now d left)

pub returns-in_err-before-clause-nothing_saved : goal.returns-in_err-before-clause-nothing_saved
returns-in_err-before-clause-nothing_saved g c =
    or_else c.from_residual.result IsFaultOfSaving _ (stays_at g.F.Folder.held g.F.Folder.may_leave g.F.Folder.moment g.F.Folder.left_since g.F.Folder.faults c.args.folder.now (λ d left. g.met.F.Folder.only_now c.args.folder.now d left))

pub returns-in_err-text-clause-done : goal.returns-in_err-text-clause-done
returns-in_err-text-clause-done g c = not_ok c.from_residual-in_err-text.result _ _ c.from_residual-in_err-text.ensures.1

pub returns-in_err-text-clause-any_moment : goal.returns-in_err-text-clause-any_moment
returns-in_err-text-clause-any_moment g c =
    not_applying g.F.Folder.held g.F.Folder.may_leave g.F.Folder.moment g.F.Folder.left_since g.F.Folder.faults c.args.only_if_needed (asked_of c.args.command.now) c.args.files.now c.args.session.past c.args.folder.now (λ d left. g.met.F.Folder.only_now c.args.folder.now d left)

pub returns-in_err-text-clause-nothing_saved : goal.returns-in_err-text-clause-nothing_saved
returns-in_err-text-clause-nothing_saved g c =
    or_else c.from_residual-in_err-text.result IsFaultOfSaving _ (stays_at g.F.Folder.held g.F.Folder.may_leave g.F.Folder.moment g.F.Folder.left_since g.F.Folder.faults c.args.folder.now (λ d left. g.met.F.Folder.only_now c.args.folder.now d left))

pub returns-in_err-reply-clause-done : goal.returns-in_err-reply-clause-done
returns-in_err-reply-clause-done g c = not_ok c.from_residual-in_err-reply.result _ _ c.from_residual-in_err-reply.ensures.1

pub returns-in_err-reply-clause-any_moment : goal.returns-in_err-reply-clause-any_moment
returns-in_err-reply-clause-any_moment g c =
    not_applying g.F.Folder.held g.F.Folder.may_leave g.F.Folder.moment g.F.Folder.left_since g.F.Folder.faults c.args.only_if_needed (asked_of c.args.command.now) c.args.files.now c.args.session.past c.args.folder.now (λ d left. g.met.F.Folder.only_now c.args.folder.now d left)

pub returns-in_err-reply-clause-nothing_saved : goal.returns-in_err-reply-clause-nothing_saved
returns-in_err-reply-clause-nothing_saved g c =
    or_else c.from_residual-in_err-reply.result IsFaultOfSaving _ (stays_at g.F.Folder.held g.F.Folder.may_leave g.F.Folder.moment g.F.Folder.left_since g.F.Folder.faults c.args.folder.now (λ d left. g.met.F.Folder.only_now c.args.folder.now d left))

pub returns-in_err-add_change-clause-done : goal.returns-in_err-add_change-clause-done
returns-in_err-add_change-clause-done g c = not_ok c.from_residual-in_err-add_change.result _ _ c.from_residual-in_err-add_change.ensures.1

pub returns-in_err-add_change-clause-any_moment : goal.returns-in_err-add_change-clause-any_moment
returns-in_err-add_change-clause-any_moment g c =
    not_applying g.F.Folder.held g.F.Folder.may_leave g.F.Folder.moment g.F.Folder.left_since g.F.Folder.faults c.args.only_if_needed (asked_of c.args.command.now) c.args.files.now c.args.session.past c.args.folder.now (λ d left. g.met.F.Folder.only_now c.args.folder.now d left)

pub returns-in_err-add_change-clause-nothing_saved : goal.returns-in_err-add_change-clause-nothing_saved
returns-in_err-add_change-clause-nothing_saved g c =
    or_else c.from_residual-in_err-add_change.result IsFaultOfSaving _ (stays_at g.F.Folder.held g.F.Folder.may_leave g.F.Folder.moment g.F.Folder.left_since g.F.Folder.faults c.args.folder.now (λ d left. g.met.F.Folder.only_now c.args.folder.now d left))

pub returns-in_err-refuse_standing-clause-done : goal.returns-in_err-refuse_standing-clause-done
returns-in_err-refuse_standing-clause-done g c = not_ok c.from_residual-in_err-refuse_standing.result _ _ c.from_residual-in_err-refuse_standing.ensures.1

pub returns-in_err-refuse_standing-clause-any_moment : goal.returns-in_err-refuse_standing-clause-any_moment
returns-in_err-refuse_standing-clause-any_moment g c =
    not_applying g.F.Folder.held g.F.Folder.may_leave g.F.Folder.moment g.F.Folder.left_since g.F.Folder.faults c.args.only_if_needed (asked_of c.args.command.now) c.args.files.now c.args.session.past c.args.folder.now (λ d left. g.met.F.Folder.only_now c.args.folder.now d left)

pub returns-in_err-refuse_standing-clause-nothing_saved : goal.returns-in_err-refuse_standing-clause-nothing_saved
returns-in_err-refuse_standing-clause-nothing_saved g c =
    or_else c.from_residual-in_err-refuse_standing.result IsFaultOfSaving _ (stays_at g.F.Folder.held g.F.Folder.may_leave g.F.Folder.moment g.F.Folder.left_since g.F.Folder.faults c.args.folder.now (λ d left. g.met.F.Folder.only_now c.args.folder.now d left))

pub returns-clause-done : goal.returns-clause-done
returns-clause-done g c =
    applied g.F.Folder.held g.F.Folder.may_leave g.F.Folder.moment g.F.Folder.left_since g.F.Folder.faults c.args.only_if_needed (asked_of c.args.command.now) c.args.files.now c.args.session.past c.save_and_print.result c.in_ok-reply.reply c.applied.new.session c.in_ok-reply.ensures.done
    (Appends (g.O.Write.contents c.args.call.now.output) (g.O.Write.contents c.save_and_print.new.output)) c.as_bytes.result.now (c.as_bytes.ensures.text ∙ c.set.ensures.text)
    c.args.folder.now c.save_and_print.new.folder c.save_and_print.ensures.said c.save_and_print.ensures.left

pub returns-clause-any_moment : goal.returns-clause-any_moment
returns-clause-any_moment g c =
    applying g.F.Folder.held g.F.Folder.may_leave g.F.Folder.moment g.F.Folder.left_since g.F.Folder.faults c.args.only_if_needed (asked_of c.args.command.now) c.args.files.now c.args.session.past c.in_ok-reply.reply c.applied.new.session c.in_ok-reply.ensures.done
    c.args.folder.now c.save_and_print.new.folder c.save_and_print.ensures.any_moment

pub returns-clause-nothing_saved : goal.returns-clause-nothing_saved
returns-clause-nothing_saved g c = if_err c.save_and_print.result IsFaultOfSaving _ c.save_and_print.ensures.fault (λ stop fault. inl fault)
