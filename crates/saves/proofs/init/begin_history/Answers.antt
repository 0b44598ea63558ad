use Rattle.std.proofs.Common.{◌∙◌, ℕ, ap, inl, refl, subst, sym, true}
use Rattle.std.specs.Io.KnownBytes.{Appends}
use Rattle.commands.specs.Replies.{is_accepted, text_of_reply}
use Rattle.files.specs.Places.{AreKnown, bytes_read}
use Rattle.files.proofs.FolderRuns.{all_same, all_settled}
use Rattle.folder.specs.Repairs.{IsMoveOf}
use Rattle.journal.specs.declared.commands.Reply.TheVariants.{Done}
use Rattle.saves.specs.Called.{InitIsDone, IsFaultOfSaving, IsSavedBy}
use Rattle.saves.proofs.CallRuns.{answers, fault_of_print, fault_of_saving, is_answering, not_ok, only_left, or_else, told_of, was_being_saved, was_saved}
use Rattle.saves.proofs.FirstRuns.{known_same, moved_removed}
use Rattle.saves.proofs.init.begin_history.Goals as goal

pub returns-in_err-left-clause-called : goal.returns-in_err-left-clause-called
returns-in_err-left-clause-called g c = not_ok c.from_residual.result _ _ c.from_residual.ensures.1

pub returns-in_err-left-clause-any_moment : goal.returns-in_err-left-clause-any_moment
returns-in_err-left-clause-any_moment g c = only_left g.F.Folder.held g.F.Folder.may_leave g.F.Folder.moment g.F.Folder.left_since g.F.Folder.faults IsMoveOf AreKnown (IsSavedBy is_accepted (InitIsDone (g.G.HandedFiles.handed c.args.handed.now) c.args.paths.index.now c.args.paths.targets.items c.args.paths.pins.items)) c.args.folder.now c.end_left.new.folder c.end_left.ensures.moved

pub returns-in_err-left-clause-nothing_saved : goal.returns-in_err-left-clause-nothing_saved
returns-in_err-left-clause-nothing_saved g c = or_else c.from_residual.result IsFaultOfSaving _ c.end_left.ensures.moved

pub returns-in_err-steps_before-clause-called : goal.returns-in_err-steps_before-clause-called
returns-in_err-steps_before-clause-called g c = not_ok c.from_residual-in_err-steps_before.result _ _ c.from_residual-in_err-steps_before.ensures.1

pub returns-in_err-steps_before-clause-any_moment : goal.returns-in_err-steps_before-clause-any_moment
returns-in_err-steps_before-clause-any_moment g c = only_left g.F.Folder.held g.F.Folder.may_leave g.F.Folder.moment g.F.Folder.left_since g.F.Folder.faults IsMoveOf AreKnown (IsSavedBy is_accepted (InitIsDone (g.G.HandedFiles.handed c.args.handed.now) c.args.paths.index.now c.args.paths.targets.items c.args.paths.pins.items)) c.args.folder.now c.end_left.new.folder c.end_left.ensures.moved

pub returns-in_err-steps_before-clause-nothing_saved : goal.returns-in_err-steps_before-clause-nothing_saved
returns-in_err-steps_before-clause-nothing_saved g c = or_else c.from_residual-in_err-steps_before.result IsFaultOfSaving _ c.end_left.ensures.moved

pub returns-in_err-files-clause-called : goal.returns-in_err-files-clause-called
returns-in_err-files-clause-called g c = not_ok c.from_residual-in_err-files.result _ _ c.from_residual-in_err-files.ensures.1

pub returns-in_err-files-clause-any_moment : goal.returns-in_err-files-clause-any_moment
returns-in_err-files-clause-any_moment g c = only_left g.F.Folder.held g.F.Folder.may_leave g.F.Folder.moment g.F.Folder.left_since g.F.Folder.faults IsMoveOf AreKnown (IsSavedBy is_accepted (InitIsDone (g.G.HandedFiles.handed c.args.handed.now) c.args.paths.index.now c.args.paths.targets.items c.args.paths.pins.items)) c.args.folder.now c.end_left.new.folder c.end_left.ensures.moved

pub returns-in_err-files-clause-nothing_saved : goal.returns-in_err-files-clause-nothing_saved
returns-in_err-files-clause-nothing_saved g c = or_else c.from_residual-in_err-files.result IsFaultOfSaving _ c.end_left.ensures.moved

pub returns-in_err-refuse_link-clause-called : goal.returns-in_err-refuse_link-clause-called
returns-in_err-refuse_link-clause-called g c = not_ok c.from_residual-in_err-refuse_link.result _ _ c.from_residual-in_err-refuse_link.ensures.1

pub returns-in_err-refuse_link-clause-any_moment : goal.returns-in_err-refuse_link-clause-any_moment
returns-in_err-refuse_link-clause-any_moment g c = only_left g.F.Folder.held g.F.Folder.may_leave g.F.Folder.moment g.F.Folder.left_since g.F.Folder.faults IsMoveOf AreKnown (IsSavedBy is_accepted (InitIsDone (g.G.HandedFiles.handed c.args.handed.now) c.args.paths.index.now c.args.paths.targets.items c.args.paths.pins.items)) c.args.folder.now c.end_left.new.folder c.end_left.ensures.moved

pub returns-in_err-refuse_link-clause-nothing_saved : goal.returns-in_err-refuse_link-clause-nothing_saved
returns-in_err-refuse_link-clause-nothing_saved g c = or_else c.from_residual-in_err-refuse_link.result IsFaultOfSaving _ c.end_left.ensures.moved

pub returns-in_err-text-clause-called : goal.returns-in_err-text-clause-called
returns-in_err-text-clause-called g c = not_ok c.from_residual-in_err-text.result _ _ c.from_residual-in_err-text.ensures.1

pub returns-in_err-text-clause-any_moment : goal.returns-in_err-text-clause-any_moment
returns-in_err-text-clause-any_moment g c = only_left g.F.Folder.held g.F.Folder.may_leave g.F.Folder.moment g.F.Folder.left_since g.F.Folder.faults IsMoveOf AreKnown (IsSavedBy is_accepted (InitIsDone (g.G.HandedFiles.handed c.args.handed.now) c.args.paths.index.now c.args.paths.targets.items c.args.paths.pins.items)) c.args.folder.now c.end_left.new.folder c.end_left.ensures.moved

pub returns-in_err-text-clause-nothing_saved : goal.returns-in_err-text-clause-nothing_saved
returns-in_err-text-clause-nothing_saved g c = or_else c.from_residual-in_err-text.result IsFaultOfSaving _ c.end_left.ensures.moved

pub returns-in_err-add_first_lock-clause-called : goal.returns-in_err-add_first_lock-clause-called
returns-in_err-add_first_lock-clause-called g c = not_ok c.from_residual-in_err-add_first_lock.result _ _ c.from_residual-in_err-add_first_lock.ensures.1

pub returns-in_err-add_first_lock-clause-any_moment : goal.returns-in_err-add_first_lock-clause-any_moment
returns-in_err-add_first_lock-clause-any_moment g c = only_left g.F.Folder.held g.F.Folder.may_leave g.F.Folder.moment g.F.Folder.left_since g.F.Folder.faults IsMoveOf AreKnown (IsSavedBy is_accepted (InitIsDone (g.G.HandedFiles.handed c.args.handed.now) c.args.paths.index.now c.args.paths.targets.items c.args.paths.pins.items)) c.args.folder.now c.end_left.new.folder c.end_left.ensures.moved

pub returns-in_err-add_first_lock-clause-nothing_saved : goal.returns-in_err-add_first_lock-clause-nothing_saved
returns-in_err-add_first_lock-clause-nothing_saved g c = or_else c.from_residual-in_err-add_first_lock.result IsFaultOfSaving _ c.end_left.ensures.moved

pub returns-in_err-add_replaced-clause-called : goal.returns-in_err-add_replaced-clause-called
returns-in_err-add_replaced-clause-called g c = not_ok c.from_residual-in_err-add_replaced.result _ _ c.from_residual-in_err-add_replaced.ensures.1

pub returns-in_err-add_replaced-clause-any_moment : goal.returns-in_err-add_replaced-clause-any_moment
returns-in_err-add_replaced-clause-any_moment g c = only_left g.F.Folder.held g.F.Folder.may_leave g.F.Folder.moment g.F.Folder.left_since g.F.Folder.faults IsMoveOf AreKnown (IsSavedBy is_accepted (InitIsDone (g.G.HandedFiles.handed c.args.handed.now) c.args.paths.index.now c.args.paths.targets.items c.args.paths.pins.items)) c.args.folder.now c.end_left.new.folder c.end_left.ensures.moved

pub returns-in_err-add_replaced-clause-nothing_saved : goal.returns-in_err-add_replaced-clause-nothing_saved
returns-in_err-add_replaced-clause-nothing_saved g c = or_else c.from_residual-in_err-add_replaced.result IsFaultOfSaving _ c.end_left.ensures.moved

pub returns-in_err-remove_left-clause-called : goal.returns-in_err-remove_left-clause-called
returns-in_err-remove_left-clause-called g c = not_ok c.from_residual-in_err-remove_left.result _ _ c.from_residual-in_err-remove_left.ensures.1

pub returns-in_err-remove_left-clause-any_moment : goal.returns-in_err-remove_left-clause-any_moment
returns-in_err-remove_left-clause-any_moment g c = only_left g.F.Folder.held g.F.Folder.may_leave g.F.Folder.moment g.F.Folder.left_since g.F.Folder.faults IsMoveOf AreKnown (IsSavedBy is_accepted (InitIsDone (g.G.HandedFiles.handed c.args.handed.now) c.args.paths.index.now c.args.paths.targets.items c.args.paths.pins.items)) c.args.folder.now c.remove_left.new.folder (moved_removed g.F.Folder.held g.F.Folder.may_leave g.F.Folder.moment g.F.Folder.left_since g.F.Folder.faults c.args.folder.now c.end_left.new.folder c.remove_left.new.folder c.end_left.ensures.moved c.remove_left.ensures)

pub returns-in_err-remove_left-clause-nothing_saved : goal.returns-in_err-remove_left-clause-nothing_saved
returns-in_err-remove_left-clause-nothing_saved g c = or_else c.from_residual-in_err-remove_left.result IsFaultOfSaving _ (moved_removed g.F.Folder.held g.F.Folder.may_leave g.F.Folder.moment g.F.Folder.left_since g.F.Folder.faults c.args.folder.now c.end_left.new.folder c.remove_left.new.folder c.end_left.ensures.moved c.remove_left.ensures)

pub rewrite-requires : goal.rewrite-requires
rewrite-requires g c =
    all_same g.F.Folder.held g.F.Folder.may_leave g.F.Folder.moment g.F.Folder.left_since g.F.Folder.faults (λ h. AreKnown h (bytes_read c.in_ok-files.field-0.files)) (known_same (bytes_read c.in_ok-files.field-0.files)) c.end_left.new.folder c.remove_left.new.folder c.remove_left.ensures
    (all_settled g.F.Folder.held g.F.Folder.may_leave g.F.Folder.moment g.F.Folder.left_since g.F.Folder.faults (λ h. AreKnown h (bytes_read c.in_ok-files.field-0.files)) c.end_left.new.folder (c.in_ok-left.ensures.settled c.requires) c.in_ok-files.ensures.known)

pub returns-in_err-rewrite-clause-called : goal.returns-in_err-rewrite-clause-called
returns-in_err-rewrite-clause-called g c = not_ok c.from_residual-in_err-rewrite.result _ _ c.from_residual-in_err-rewrite.ensures.1

pub returns-in_err-rewrite-clause-any_moment : goal.returns-in_err-rewrite-clause-any_moment
returns-in_err-rewrite-clause-any_moment g c =
    is_answering g.F.Folder.held g.F.Folder.may_leave g.F.Folder.moment g.F.Folder.left_since g.F.Folder.faults IsMoveOf AreKnown is_accepted (InitIsDone (g.G.HandedFiles.handed c.args.handed.now) c.args.paths.index.now c.args.paths.targets.items c.args.paths.pins.items) c.in_ok-files.field-0.files c.in_ok-files.field-0.session (Done c.in_ok-files.field-0.session.past.cursor) c.in_ok-files.ensures.begins c.args.folder.now c.remove_left.new.folder c.rewrite.new.folder
    (moved_removed g.F.Folder.held g.F.Folder.may_leave g.F.Folder.moment g.F.Folder.left_since g.F.Folder.faults c.args.folder.now c.end_left.new.folder c.remove_left.new.folder c.end_left.ensures.moved c.remove_left.ensures)
    (all_same g.F.Folder.held g.F.Folder.may_leave g.F.Folder.moment g.F.Folder.left_since g.F.Folder.faults (λ h. AreKnown h (bytes_read c.in_ok-files.field-0.files)) (known_same (bytes_read c.in_ok-files.field-0.files)) c.end_left.new.folder c.remove_left.new.folder c.remove_left.ensures
    (all_settled g.F.Folder.held g.F.Folder.may_leave g.F.Folder.moment g.F.Folder.left_since g.F.Folder.faults (λ h. AreKnown h (bytes_read c.in_ok-files.field-0.files)) c.end_left.new.folder (c.in_ok-left.ensures.settled c.requires) c.in_ok-files.ensures.known))
    (was_being_saved g.F.Folder.held g.F.Folder.may_leave g.F.Folder.moment g.F.Folder.left_since g.F.Folder.faults true c.in_ok-files.field-0.files c.in_ok-files.field-0.session refl c.remove_left.new.folder c.rewrite.new.folder c.rewrite.ensures.any_moment)

pub returns-in_err-rewrite-clause-nothing_saved : goal.returns-in_err-rewrite-clause-nothing_saved
returns-in_err-rewrite-clause-nothing_saved g c =
    told_of c.from_residual-in_err-rewrite.result _ _ c.from_residual-in_err-rewrite.ensures.1 (λ stop is. inl (subst IsFaultOfSaving (sym is) (fault_of_saving c.in_err-rewrite.field-0.0 c.in_err-rewrite.ensures.fault)))

pub returns-in_err-print-clause-called : goal.returns-in_err-print-clause-called
returns-in_err-print-clause-called g c = not_ok c.from_residual-in_err-print.result _ _ c.from_residual-in_err-print.ensures.1

pub returns-in_err-print-clause-any_moment : goal.returns-in_err-print-clause-any_moment
returns-in_err-print-clause-any_moment g c =
    is_answering g.F.Folder.held g.F.Folder.may_leave g.F.Folder.moment g.F.Folder.left_since g.F.Folder.faults IsMoveOf AreKnown is_accepted (InitIsDone (g.G.HandedFiles.handed c.args.handed.now) c.args.paths.index.now c.args.paths.targets.items c.args.paths.pins.items) c.in_ok-files.field-0.files c.in_ok-files.field-0.session (Done c.in_ok-files.field-0.session.past.cursor) c.in_ok-files.ensures.begins c.args.folder.now c.remove_left.new.folder c.rewrite.new.folder
    (moved_removed g.F.Folder.held g.F.Folder.may_leave g.F.Folder.moment g.F.Folder.left_since g.F.Folder.faults c.args.folder.now c.end_left.new.folder c.remove_left.new.folder c.end_left.ensures.moved c.remove_left.ensures)
    (all_same g.F.Folder.held g.F.Folder.may_leave g.F.Folder.moment g.F.Folder.left_since g.F.Folder.faults (λ h. AreKnown h (bytes_read c.in_ok-files.field-0.files)) (known_same (bytes_read c.in_ok-files.field-0.files)) c.end_left.new.folder c.remove_left.new.folder c.remove_left.ensures
    (all_settled g.F.Folder.held g.F.Folder.may_leave g.F.Folder.moment g.F.Folder.left_since g.F.Folder.faults (λ h. AreKnown h (bytes_read c.in_ok-files.field-0.files)) c.end_left.new.folder (c.in_ok-left.ensures.settled c.requires) c.in_ok-files.ensures.known))
    (was_being_saved g.F.Folder.held g.F.Folder.may_leave g.F.Folder.moment g.F.Folder.left_since g.F.Folder.faults true c.in_ok-files.field-0.files c.in_ok-files.field-0.session refl c.remove_left.new.folder c.rewrite.new.folder c.rewrite.ensures.any_moment)

pub returns-in_err-print-clause-nothing_saved : goal.returns-in_err-print-clause-nothing_saved
returns-in_err-print-clause-nothing_saved g c =
    told_of c.from_residual-in_err-print.result _ _ c.from_residual-in_err-print.ensures.1 (λ stop is. inl (subst IsFaultOfSaving (sym is) (fault_of_print c.in_err-print.field-0.0 c.in_err-print.ensures.fault)))

pub returns-clause-called : goal.returns-clause-called
returns-clause-called g c =
    answers g.F.Folder.held g.F.Folder.may_leave g.F.Folder.moment g.F.Folder.left_since g.F.Folder.faults IsMoveOf AreKnown is_accepted (InitIsDone (g.G.HandedFiles.handed c.args.handed.now) c.args.paths.index.now c.args.paths.targets.items c.args.paths.pins.items) c.in_ok-files.field-0.files c.in_ok-files.field-0.session (Done c.in_ok-files.field-0.session.past.cursor) c.in_ok-files.ensures.begins
    (λ reply. Appends (g.O.Write.contents c.args.call.now.output) (g.O.Write.contents c.print.new.output) (text_of_reply reply))
    (subst (Appends (g.O.Write.contents c.args.call.now.output) (g.O.Write.contents c.print.new.output)) (c.as_bytes.ensures.text ∙ c.set.ensures.text ∙ ap (λ (n : ℕ). text_of_reply (Done n)) c.cursor.ensures.cursor) c.in_ok-print.ensures.bytes) c.args.folder.now c.remove_left.new.folder c.rewrite.new.folder
    (moved_removed g.F.Folder.held g.F.Folder.may_leave g.F.Folder.moment g.F.Folder.left_since g.F.Folder.faults c.args.folder.now c.end_left.new.folder c.remove_left.new.folder c.end_left.ensures.moved c.remove_left.ensures)
    (all_same g.F.Folder.held g.F.Folder.may_leave g.F.Folder.moment g.F.Folder.left_since g.F.Folder.faults (λ h. AreKnown h (bytes_read c.in_ok-files.field-0.files)) (known_same (bytes_read c.in_ok-files.field-0.files)) c.end_left.new.folder c.remove_left.new.folder c.remove_left.ensures
    (all_settled g.F.Folder.held g.F.Folder.may_leave g.F.Folder.moment g.F.Folder.left_since g.F.Folder.faults (λ h. AreKnown h (bytes_read c.in_ok-files.field-0.files)) c.end_left.new.folder (c.in_ok-left.ensures.settled c.requires) c.in_ok-files.ensures.known))
    (was_saved g.F.Folder.held g.F.Folder.may_leave g.F.Folder.moment g.F.Folder.left_since g.F.Folder.faults true c.in_ok-files.field-0.files c.in_ok-files.field-0.session refl c.remove_left.new.folder c.rewrite.new.folder c.in_ok-rewrite.ensures.saved)

pub returns-clause-any_moment : goal.returns-clause-any_moment
returns-clause-any_moment g c =
    is_answering g.F.Folder.held g.F.Folder.may_leave g.F.Folder.moment g.F.Folder.left_since g.F.Folder.faults IsMoveOf AreKnown is_accepted (InitIsDone (g.G.HandedFiles.handed c.args.handed.now) c.args.paths.index.now c.args.paths.targets.items c.args.paths.pins.items) c.in_ok-files.field-0.files c.in_ok-files.field-0.session (Done c.in_ok-files.field-0.session.past.cursor) c.in_ok-files.ensures.begins c.args.folder.now c.remove_left.new.folder c.rewrite.new.folder
    (moved_removed g.F.Folder.held g.F.Folder.may_leave g.F.Folder.moment g.F.Folder.left_since g.F.Folder.faults c.args.folder.now c.end_left.new.folder c.remove_left.new.folder c.end_left.ensures.moved c.remove_left.ensures)
    (all_same g.F.Folder.held g.F.Folder.may_leave g.F.Folder.moment g.F.Folder.left_since g.F.Folder.faults (λ h. AreKnown h (bytes_read c.in_ok-files.field-0.files)) (known_same (bytes_read c.in_ok-files.field-0.files)) c.end_left.new.folder c.remove_left.new.folder c.remove_left.ensures
    (all_settled g.F.Folder.held g.F.Folder.may_leave g.F.Folder.moment g.F.Folder.left_since g.F.Folder.faults (λ h. AreKnown h (bytes_read c.in_ok-files.field-0.files)) c.end_left.new.folder (c.in_ok-left.ensures.settled c.requires) c.in_ok-files.ensures.known))
    (was_being_saved g.F.Folder.held g.F.Folder.may_leave g.F.Folder.moment g.F.Folder.left_since g.F.Folder.faults true c.in_ok-files.field-0.files c.in_ok-files.field-0.session refl c.remove_left.new.folder c.rewrite.new.folder c.rewrite.ensures.any_moment)

pub returns-clause-nothing_saved : goal.returns-clause-nothing_saved
returns-clause-nothing_saved g c = tt
