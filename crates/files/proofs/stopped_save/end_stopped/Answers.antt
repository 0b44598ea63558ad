use Rattle.std.proofs.Common.{◌≡◌, Option, subst, IfSome}
use Rattle.folder.specs.Repairs.{AreBeside, LeftParts, finished}
use Rattle.files.specs.Completed.{IsWayBack}
use Rattle.files.proofs.CompletableRuns.{stands_ended, stays_ending, stays_twice, still_stays}
use Rattle.files.proofs.FolderRuns.{moved_by, moved_then, settled_ran, settled_stays, so_still, still_moved}
use Rattle.files.proofs.stopped_save.end_stopped.Goals as goal

pub end_save-requires : goal.end_save-requires
end_save-requires g c =
    so_still g.F.Folder.held g.F.Folder.may_leave g.F.Folder.moment g.F.Folder.left_since g.F.Folder.faults _ c.args.folder.now c.left_in.new.folder c.left_in.ensures.still
    (subst (λ (o : Option LeftParts). IfSome o (λ l. IfSome (g.F.Folder.held c.args.folder.now) (AreBeside l.names))) c.in-Some.is c.in_ok-left.ensures.beside)

pub returns-in_err-left-clause-moved : goal.returns-in_err-left-clause-moved
returns-in_err-left-clause-moved g c =
    still_moved g.F.Folder.held g.F.Folder.may_leave g.F.Folder.moment g.F.Folder.left_since g.F.Folder.faults c.args.folder.now c.left_in.new.folder c.left_in.ensures.still

pub returns-in_default-clause-moved : goal.returns-in_default-clause-moved
returns-in_default-clause-moved g c =
    still_moved g.F.Folder.held g.F.Folder.may_leave g.F.Folder.moment g.F.Folder.left_since g.F.Folder.faults c.args.folder.now c.left_in.new.folder c.left_in.ensures.still

pub returns-in_default-clause-settled : goal.returns-in_default-clause-settled
returns-in_default-clause-settled g c settled =
    settled_stays g.F.Folder.held g.F.Folder.may_leave g.F.Folder.moment g.F.Folder.left_since g.F.Folder.faults c.args.folder.now c.left_in.new.folder settled c.left_in.ensures.still

pub returns-in-Ok-clause-moved : goal.returns-in-Ok-clause-moved
returns-in-Ok-clause-moved g c =
    moved_by g.F.Folder.held g.F.Folder.may_leave g.F.Folder.moment g.F.Folder.left_since g.F.Folder.faults _ c.args.folder.now c.left_in.new.folder c.end_save.new.folder c.left_in.ensures.still c.end_save.ensures.any

pub returns-in-Ok-clause-settled : goal.returns-in-Ok-clause-settled
returns-in-Ok-clause-settled g c settled =
    settled_ran g.F.Folder.held g.F.Folder.may_leave g.F.Folder.moment g.F.Folder.left_since g.F.Folder.faults (finished c.in-Some.left) _ c.left_in.new.folder c.end_save.new.folder
    (settled_stays g.F.Folder.held g.F.Folder.may_leave g.F.Folder.moment g.F.Folder.left_since g.F.Folder.faults c.args.folder.now c.left_in.new.folder settled c.left_in.ensures.still)
    c.in-Ok.ensures.done

pub returns-clause-moved : goal.returns-clause-moved
returns-clause-moved g c =
    moved_then g.F.Folder.held g.F.Folder.may_leave g.F.Folder.moment g.F.Folder.left_since g.F.Folder.faults c.args.folder.now c.end_save.new.folder c.unsaved.new.self
    (moved_by g.F.Folder.held g.F.Folder.may_leave g.F.Folder.moment g.F.Folder.left_since g.F.Folder.faults _ c.args.folder.now c.left_in.new.folder c.end_save.new.folder c.left_in.ensures.still c.end_save.ensures.any)
    c.unsaved.ensures.still

pub returns-in_err-left-clause-kept : goal.returns-in_err-left-clause-kept
returns-in_err-left-clause-kept g c settled = still_stays g.F.Folder.held g.F.Folder.may_leave g.F.Folder.moment g.F.Folder.left_since g.F.Folder.faults c.args.folder.now c.left_in.new.folder c.left_in.ensures.still

pub returns-in_default-clause-kept : goal.returns-in_default-clause-kept
returns-in_default-clause-kept g c settled = still_stays g.F.Folder.held g.F.Folder.may_leave g.F.Folder.moment g.F.Folder.left_since g.F.Folder.faults c.args.folder.now c.left_in.new.folder c.left_in.ensures.still

pub returns-in-Ok-clause-ended : goal.returns-in-Ok-clause-ended
returns-in-Ok-clause-ended g c =
    stands_ended g.F.Folder.held g.F.Folder.may_leave g.F.Folder.moment g.F.Folder.left_since g.F.Folder.faults c.in-Some.left _ c.args.folder.now c.left_in.new.folder c.end_save.new.folder c.left_in.ensures.still c.in-Ok.ensures.done
    (subst (λ (o : Option LeftParts). IfSome o (λ l. IfSome (g.F.Folder.held c.args.folder.now) (IsWayBack l))) c.in-Some.is c.in_ok-left.ensures.way)

pub returns-in-Ok-clause-kept : goal.returns-in-Ok-clause-kept
returns-in-Ok-clause-kept g c settled =
    stays_ending g.F.Folder.held g.F.Folder.may_leave g.F.Folder.moment g.F.Folder.left_since g.F.Folder.faults c.in-Some.left c.args.folder.now c.left_in.new.folder c.end_save.new.folder settled c.left_in.ensures.still c.end_save.ensures.any
    (subst (λ (o : Option LeftParts). IfSome o (λ l. IfSome (g.F.Folder.held c.args.folder.now) (IsWayBack l))) c.in-Some.is c.in_ok-left.ensures.way)

pub returns-clause-kept : goal.returns-clause-kept
returns-clause-kept g c settled =
    stays_twice g.F.Folder.held g.F.Folder.may_leave g.F.Folder.moment g.F.Folder.left_since g.F.Folder.faults c.args.folder.now c.end_save.new.folder c.unsaved.new.self
    (stays_ending g.F.Folder.held g.F.Folder.may_leave g.F.Folder.moment g.F.Folder.left_since g.F.Folder.faults c.in-Some.left c.args.folder.now c.left_in.new.folder c.end_save.new.folder settled c.left_in.ensures.still c.end_save.ensures.any
    (subst (λ (o : Option LeftParts). IfSome o (λ l. IfSome (g.F.Folder.held c.args.folder.now) (IsWayBack l))) c.in-Some.is c.in_ok-left.ensures.way))
    (still_stays g.F.Folder.held g.F.Folder.may_leave g.F.Folder.moment g.F.Folder.left_since g.F.Folder.faults c.end_save.new.folder c.unsaved.new.self c.unsaved.ensures.still)
