use Rattle.std.proofs.Common.{false, inl, inr, refl, subst, sym, true}
use Rattle.std.specs.Bool.{⊤}
use Rattle.calls.proofs.Pools.{pool-for}
use Rattle.commands.specs.Runs.{SomeDoneTo}
use Rattle.commands.specs.declared.batch_end.BatchEnd.TheVariants.{Leave, Save}
use Rattle.files.specs.Places.{AreInPlace, AreKnown, bytes_read}
use Rattle.files.specs.Repair.{IsRepairOf}
use Rattle.files.proofs.FolderRuns.{all_less}
use Rattle.files.proofs.StandingFiles.{known}
use Rattle.saves.specs.Called.{BatchIsDone, IsFaultOfSaving, is_save}
use Rattle.saves.proofs.CallRuns.{answers, fault_of_saving, is_answering, not_ok, only_repaired, or_else, told_of, was_being_saved, was_left, was_saved}
use Rattle.saves.proofs.batch.run_batch.Goals as goal

pub history_to_save-requires : goal.history_to_save-requires
history_to_save-requires g c = c.requires

pub returns-in_err-files-clause-called : goal.returns-in_err-files-clause-called
returns-in_err-files-clause-called g c = not_ok c.from_residual.result _ _ c.from_residual.ensures.1

pub returns-in_err-files-clause-any_moment : goal.returns-in_err-files-clause-any_moment
returns-in_err-files-clause-any_moment g c = only_repaired g.F.Folder.held g.F.Folder.may_leave g.F.Folder.moment g.F.Folder.left_since g.F.Folder.faults (g.F.HistoryFolder.may_fail c.args.folder.now) _ c.args.folder.now c.history_to_save.new.folder c.history_to_save.ensures.repaired

pub returns-in_err-files-clause-nothing_saved : goal.returns-in_err-files-clause-nothing_saved
returns-in_err-files-clause-nothing_saved g c = or_else c.from_residual.result IsFaultOfSaving _ c.history_to_save.ensures.repaired

pub returns-in_err-before-clause-called : goal.returns-in_err-before-clause-called
returns-in_err-before-clause-called g c = not_ok c.from_residual-in_err-before.result _ _ c.from_residual-in_err-before.ensures.1

pub returns-in_err-before-clause-any_moment : goal.returns-in_err-before-clause-any_moment
returns-in_err-before-clause-any_moment g c = only_repaired g.F.Folder.held g.F.Folder.may_leave g.F.Folder.moment g.F.Folder.left_since g.F.Folder.faults (g.F.HistoryFolder.may_fail c.args.folder.now) _ c.args.folder.now c.history_to_save.new.folder c.history_to_save.ensures.repaired

pub returns-in_err-before-clause-nothing_saved : goal.returns-in_err-before-clause-nothing_saved
returns-in_err-before-clause-nothing_saved g c = or_else c.from_residual-in_err-before.result IsFaultOfSaving _ c.history_to_save.ensures.repaired

pub returns-in_err-end-clause-called : goal.returns-in_err-end-clause-called
returns-in_err-end-clause-called g c = not_ok c.from_residual-in_err-end.result _ _ c.from_residual-in_err-end.ensures.1

pub returns-in_err-end-clause-any_moment : goal.returns-in_err-end-clause-any_moment
returns-in_err-end-clause-any_moment g c = only_repaired g.F.Folder.held g.F.Folder.may_leave g.F.Folder.moment g.F.Folder.left_since g.F.Folder.faults (g.F.HistoryFolder.may_fail c.args.folder.now) _ c.args.folder.now c.history_to_save.new.folder c.history_to_save.ensures.repaired

pub returns-in_err-end-clause-nothing_saved : goal.returns-in_err-end-clause-nothing_saved
returns-in_err-end-clause-nothing_saved g c = or_else c.from_residual-in_err-end.result IsFaultOfSaving _ c.history_to_save.ensures.repaired

pub returns-in_err-refuse_standing-in-Save-clause-called : goal.returns-in_err-refuse_standing-in-Save-clause-called
returns-in_err-refuse_standing-in-Save-clause-called g c = not_ok c.from_residual-in_err-refuse_standing-in-Save.result _ _ c.from_residual-in_err-refuse_standing-in-Save.ensures.1

pub returns-in_err-refuse_standing-in-Save-clause-any_moment : goal.returns-in_err-refuse_standing-in-Save-clause-any_moment
returns-in_err-refuse_standing-in-Save-clause-any_moment g c = only_repaired g.F.Folder.held g.F.Folder.may_leave g.F.Folder.moment g.F.Folder.left_since g.F.Folder.faults (g.F.HistoryFolder.may_fail c.args.folder.now) _ c.args.folder.now c.history_to_save.new.folder c.history_to_save.ensures.repaired

pub returns-in_err-refuse_standing-in-Save-clause-nothing_saved : goal.returns-in_err-refuse_standing-in-Save-clause-nothing_saved
returns-in_err-refuse_standing-in-Save-clause-nothing_saved g c = or_else c.from_residual-in_err-refuse_standing-in-Save.result IsFaultOfSaving _ c.history_to_save.ensures.repaired

pub returns-in_err-add_refused_line-in-Refuse-clause-called : goal.returns-in_err-add_refused_line-in-Refuse-clause-called
returns-in_err-add_refused_line-in-Refuse-clause-called g c = not_ok c.from_residual-in_err-add_refused_line-in-Refuse.result _ _ c.from_residual-in_err-add_refused_line-in-Refuse.ensures.1

pub returns-in_err-add_refused_line-in-Refuse-clause-any_moment : goal.returns-in_err-add_refused_line-in-Refuse-clause-any_moment
returns-in_err-add_refused_line-in-Refuse-clause-any_moment g c = only_repaired g.F.Folder.held g.F.Folder.may_leave g.F.Folder.moment g.F.Folder.left_since g.F.Folder.faults (g.F.HistoryFolder.may_fail c.args.folder.now) _ c.args.folder.now c.history_to_save.new.folder c.history_to_save.ensures.repaired

pub returns-in_err-add_refused_line-in-Refuse-clause-nothing_saved : goal.returns-in_err-add_refused_line-in-Refuse-clause-nothing_saved
returns-in_err-add_refused_line-in-Refuse-clause-nothing_saved g c = or_else c.from_residual-in_err-add_refused_line-in-Refuse.result IsFaultOfSaving _ c.history_to_save.ensures.repaired

pub rewrite-requires : goal.rewrite-requires
rewrite-requires g c =
    all_less g.F.Folder.held g.F.Folder.may_leave g.F.Folder.moment g.F.Folder.left_since g.F.Folder.faults (λ h. AreInPlace h (bytes_read c.in_ok-files.field-0.files)) (λ h. AreKnown h (bytes_read c.in_ok-files.field-0.files))
    (λ h. known h (bytes_read c.in_ok-files.field-0.files)) c.history_to_save.new.folder c.in_ok-files.ensures.places

pub returns-in_err-rewrite-in-Save-clause-called : goal.returns-in_err-rewrite-in-Save-clause-called
returns-in_err-rewrite-in-Save-clause-called g c = not_ok c.from_residual-in_err-rewrite-in-Save.result _ _ c.from_residual-in_err-rewrite-in-Save.ensures.1

pub returns-in_err-rewrite-in-Save-clause-any_moment : goal.returns-in_err-rewrite-in-Save-clause-any_moment
returns-in_err-rewrite-in-Save-clause-any_moment g c =
    is_answering g.F.Folder.held g.F.Folder.may_leave g.F.Folder.moment g.F.Folder.left_since g.F.Folder.faults (IsRepairOf (g.F.HistoryFolder.may_fail c.args.folder.now)) AreInPlace is_save (BatchIsDone (g.G.HandedFiles.handed c.args.handed.now) c.args.options.index.now c.args.is_all_or_none c.args.options.keeps_locked) c.in_ok-files.field-0.files c.done_to_the_end.new.session Save (
      c.in_ok-files.field-0.session,
      c.in_ok-files.ensures.stand,
      (
        c.pool_of-pool.result,
        pool-for (g.G.HandedFiles.handed c.args.handed.now) c.args.options.index.now c.args.options.keeps_locked c.in_ok-files.field-0.snapshot c.pool_of-pool.result c.in_ok-files.ensures.index c.pool_of-pool.ensures.index c.pool_of-pool.ensures.kept,
        subst (λ e. SomeDoneTo c.args.is_all_or_none e c.pool_of-pool.result c.in_ok-files.field-0.session c.done_to_the_end.new.session) c.in-Save.is c.in_ok-end.ensures,
      ),
    )
    c.args.folder.now c.history_to_save.new.folder c.rewrite.new.folder c.history_to_save.ensures.repaired c.in_ok-files.ensures.places
    (was_being_saved g.F.Folder.held g.F.Folder.may_leave g.F.Folder.moment g.F.Folder.left_since g.F.Folder.faults true c.in_ok-files.field-0.files c.done_to_the_end.new.session refl c.history_to_save.new.folder c.rewrite.new.folder c.rewrite.ensures.any_moment)

pub returns-in_err-rewrite-in-Save-clause-nothing_saved : goal.returns-in_err-rewrite-in-Save-clause-nothing_saved
returns-in_err-rewrite-in-Save-clause-nothing_saved g c =
    told_of c.from_residual-in_err-rewrite-in-Save.result _ _ c.from_residual-in_err-rewrite-in-Save.ensures.1
    (λ stop is. inl (subst IsFaultOfSaving (sym is) (fault_of_saving c.in_err-rewrite-in-Save.field-0.0 c.in_err-rewrite-in-Save.ensures.fault)))

pub returns-in-Save-clause-called : goal.returns-in-Save-clause-called
returns-in-Save-clause-called g c =
    answers g.F.Folder.held g.F.Folder.may_leave g.F.Folder.moment g.F.Folder.left_since g.F.Folder.faults (IsRepairOf (g.F.HistoryFolder.may_fail c.args.folder.now)) AreInPlace is_save (BatchIsDone (g.G.HandedFiles.handed c.args.handed.now) c.args.options.index.now c.args.is_all_or_none c.args.options.keeps_locked) c.in_ok-files.field-0.files c.done_to_the_end.new.session Save (
      c.in_ok-files.field-0.session,
      c.in_ok-files.ensures.stand,
      (
        c.pool_of-pool.result,
        pool-for (g.G.HandedFiles.handed c.args.handed.now) c.args.options.index.now c.args.options.keeps_locked c.in_ok-files.field-0.snapshot c.pool_of-pool.result c.in_ok-files.ensures.index c.pool_of-pool.ensures.index c.pool_of-pool.ensures.kept,
        subst (λ e. SomeDoneTo c.args.is_all_or_none e c.pool_of-pool.result c.in_ok-files.field-0.session c.done_to_the_end.new.session) c.in-Save.is c.in_ok-end.ensures,
      ),
    )
    (λ end. ⊤) tt c.args.folder.now c.history_to_save.new.folder c.rewrite.new.folder c.history_to_save.ensures.repaired c.in_ok-files.ensures.places
    (was_saved g.F.Folder.held g.F.Folder.may_leave g.F.Folder.moment g.F.Folder.left_since g.F.Folder.faults true c.in_ok-files.field-0.files c.done_to_the_end.new.session refl c.history_to_save.new.folder c.rewrite.new.folder c.in_ok-rewrite-in-Save.ensures.saved)

pub returns-in-Save-clause-any_moment : goal.returns-in-Save-clause-any_moment
returns-in-Save-clause-any_moment g c =
    is_answering g.F.Folder.held g.F.Folder.may_leave g.F.Folder.moment g.F.Folder.left_since g.F.Folder.faults (IsRepairOf (g.F.HistoryFolder.may_fail c.args.folder.now)) AreInPlace is_save (BatchIsDone (g.G.HandedFiles.handed c.args.handed.now) c.args.options.index.now c.args.is_all_or_none c.args.options.keeps_locked) c.in_ok-files.field-0.files c.done_to_the_end.new.session Save (
      c.in_ok-files.field-0.session,
      c.in_ok-files.ensures.stand,
      (
        c.pool_of-pool.result,
        pool-for (g.G.HandedFiles.handed c.args.handed.now) c.args.options.index.now c.args.options.keeps_locked c.in_ok-files.field-0.snapshot c.pool_of-pool.result c.in_ok-files.ensures.index c.pool_of-pool.ensures.index c.pool_of-pool.ensures.kept,
        subst (λ e. SomeDoneTo c.args.is_all_or_none e c.pool_of-pool.result c.in_ok-files.field-0.session c.done_to_the_end.new.session) c.in-Save.is c.in_ok-end.ensures,
      ),
    )
    c.args.folder.now c.history_to_save.new.folder c.rewrite.new.folder c.history_to_save.ensures.repaired c.in_ok-files.ensures.places
    (was_being_saved g.F.Folder.held g.F.Folder.may_leave g.F.Folder.moment g.F.Folder.left_since g.F.Folder.faults true c.in_ok-files.field-0.files c.done_to_the_end.new.session refl c.history_to_save.new.folder c.rewrite.new.folder c.rewrite.ensures.any_moment)

pub returns-in-Save-clause-nothing_saved : goal.returns-in-Save-clause-nothing_saved
returns-in-Save-clause-nothing_saved g c = tt

pub returns-in-Leave-clause-called : goal.returns-in-Leave-clause-called
returns-in-Leave-clause-called g c =
    answers g.F.Folder.held g.F.Folder.may_leave g.F.Folder.moment g.F.Folder.left_since g.F.Folder.faults (IsRepairOf (g.F.HistoryFolder.may_fail c.args.folder.now)) AreInPlace is_save (BatchIsDone (g.G.HandedFiles.handed c.args.handed.now) c.args.options.index.now c.args.is_all_or_none c.args.options.keeps_locked) c.in_ok-files.field-0.files c.done_to_the_end.new.session Leave (
      c.in_ok-files.field-0.session,
      c.in_ok-files.ensures.stand,
      (
        c.pool_of-pool.result,
        pool-for (g.G.HandedFiles.handed c.args.handed.now) c.args.options.index.now c.args.options.keeps_locked c.in_ok-files.field-0.snapshot c.pool_of-pool.result c.in_ok-files.ensures.index c.pool_of-pool.ensures.index c.pool_of-pool.ensures.kept,
        subst (λ e. SomeDoneTo c.args.is_all_or_none e c.pool_of-pool.result c.in_ok-files.field-0.session c.done_to_the_end.new.session) c.in-Leave.is c.in_ok-end.ensures,
      ),
    )
    (λ end. ⊤) tt c.args.folder.now c.history_to_save.new.folder c.history_to_save.new.folder c.history_to_save.ensures.repaired c.in_ok-files.ensures.places
    (was_left g.F.Folder.held g.F.Folder.may_leave g.F.Folder.moment g.F.Folder.left_since g.F.Folder.faults false c.in_ok-files.field-0.files c.done_to_the_end.new.session refl c.history_to_save.new.folder (λ d left. g.met.F.Folder.only_now c.history_to_save.new.folder d left))

pub returns-in-Leave-clause-any_moment : goal.returns-in-Leave-clause-any_moment
returns-in-Leave-clause-any_moment g c = only_repaired g.F.Folder.held g.F.Folder.may_leave g.F.Folder.moment g.F.Folder.left_since g.F.Folder.faults (g.F.HistoryFolder.may_fail c.args.folder.now) _ c.args.folder.now c.history_to_save.new.folder c.history_to_save.ensures.repaired

pub returns-in-Leave-clause-nothing_saved : goal.returns-in-Leave-clause-nothing_saved
returns-in-Leave-clause-nothing_saved g c = tt

pub returns-clause-called : goal.returns-clause-called
returns-clause-called g c = tt

pub returns-clause-any_moment : goal.returns-clause-any_moment
returns-clause-any_moment g c = only_repaired g.F.Folder.held g.F.Folder.may_leave g.F.Folder.moment g.F.Folder.left_since g.F.Folder.faults (g.F.HistoryFolder.may_fail c.args.folder.now) _ c.args.folder.now c.history_to_save.new.folder c.history_to_save.ensures.repaired

pub returns-clause-nothing_saved : goal.returns-clause-nothing_saved
returns-clause-nothing_saved g c = inr c.history_to_save.ensures.repaired
