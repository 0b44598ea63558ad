use Rattle.std.proofs.Common.{IsSome}
use Rattle.files.proofs.CompletableRuns.{stays_removing, stays_twice}
use Rattle.files.proofs.FolderRuns.{all_in_place, all_settled, none_repaired, repaired_moving, repaired_removing, repaired_twice}
use Rattle.files.proofs.GivesWay.{gives_way, opens_without}
use Rattle.files.specs.Places.{bytes_read}
use Rattle.files.proofs.saved_files.SavedFiles.open_over_to_save.Goals as goal

pub returns-in_err-remove_left_of_opened-in-Ok-clause-repaired : goal.returns-in_err-remove_left_of_opened-in-Ok-clause-repaired
returns-in_err-remove_left_of_opened-in-Ok-clause-repaired g c = repaired_removing g.F.Folder.held g.F.Folder.may_leave g.F.Folder.moment g.F.Folder.left_since g.F.Folder.faults (IsSome c.args.requirements) c.args.folder.now c.remove_left_of_opened.new.folder c.remove_left_of_opened.ensures

pub returns-in-Ok-clause-repaired : goal.returns-in-Ok-clause-repaired
returns-in-Ok-clause-repaired g c = repaired_removing g.F.Folder.held g.F.Folder.may_leave g.F.Folder.moment g.F.Folder.left_since g.F.Folder.faults (IsSome c.args.requirements) c.args.folder.now c.remove_left_of_opened.new.folder c.remove_left_of_opened.ensures

pub returns-in-Ok-clause-places : goal.returns-in-Ok-clause-places
returns-in-Ok-clause-places g c = all_in_place g.F.Folder.held g.F.Folder.may_leave g.F.Folder.moment g.F.Folder.left_since g.F.Folder.faults _ c.args.folder.now c.remove_left_of_opened.new.folder c.remove_left_of_opened.ensures c.requires.places

pub returns-in_err-end_stopped-in-Err-Input-clause-repaired : goal.returns-in_err-end_stopped-in-Err-Input-clause-repaired
returns-in_err-end_stopped-in-Err-Input-clause-repaired g c =
    repaired_moving g.F.Folder.held g.F.Folder.may_leave g.F.Folder.moment g.F.Folder.left_since g.F.Folder.faults (IsSome c.args.requirements) c.args.folder.now c.end_stopped.new.folder c.requires.settled
    (gives_way _ c.args.requirements (g.F.Folder.held c.args.folder.now) c.args.self _ _ _ c.open_over.result c.in-Err-Input.is c.in-Err-Input.field-0-is c.open_over.ensures c.requires.named c.requires.places.0) c.end_stopped.ensures.moved

pub returns-then-not-branch-clause-repaired : goal.returns-then-not-branch-clause-repaired
returns-then-not-branch-clause-repaired g c =
    repaired_moving g.F.Folder.held g.F.Folder.may_leave g.F.Folder.moment g.F.Folder.left_since g.F.Folder.faults (IsSome c.args.requirements) c.args.folder.now c.end_stopped.new.folder c.requires.settled
    (gives_way _ c.args.requirements (g.F.Folder.held c.args.folder.now) c.args.self _ _ _ c.open_over.result c.in-Err-Input.is c.in-Err-Input.field-0-is c.open_over.ensures c.requires.named c.requires.places.0) c.end_stopped.ensures.moved

pub returns-in_err-files-in-Err-Input-clause-repaired : goal.returns-in_err-files-in-Err-Input-clause-repaired
returns-in_err-files-in-Err-Input-clause-repaired g c =
    repaired_moving g.F.Folder.held g.F.Folder.may_leave g.F.Folder.moment g.F.Folder.left_since g.F.Folder.faults (IsSome c.args.requirements) c.args.folder.now c.end_stopped.new.folder c.requires.settled
    (gives_way _ c.args.requirements (g.F.Folder.held c.args.folder.now) c.args.self _ _ _ c.open_over.result c.in-Err-Input.is c.in-Err-Input.field-0-is c.open_over.ensures c.requires.named c.requires.places.0) c.end_stopped.ensures.moved

pub returns-in_err-session-in-Err-Input-clause-repaired : goal.returns-in_err-session-in-Err-Input-clause-repaired
returns-in_err-session-in-Err-Input-clause-repaired g c =
    repaired_moving g.F.Folder.held g.F.Folder.may_leave g.F.Folder.moment g.F.Folder.left_since g.F.Folder.faults (IsSome c.args.requirements) c.args.folder.now c.end_stopped.new.folder c.requires.settled
    (gives_way _ c.args.requirements (g.F.Folder.held c.args.folder.now) c.args.self _ _ _ c.open_over.result c.in-Err-Input.is c.in-Err-Input.field-0-is c.open_over.ensures c.requires.named c.requires.places.0) c.end_stopped.ensures.moved

pub returns-in_err-remove_left_of_opened-in-Err-Input-clause-repaired : goal.returns-in_err-remove_left_of_opened-in-Err-Input-clause-repaired
returns-in_err-remove_left_of_opened-in-Err-Input-clause-repaired g c =
    repaired_twice g.F.Folder.held g.F.Folder.may_leave g.F.Folder.moment g.F.Folder.left_since g.F.Folder.faults (IsSome c.args.requirements) c.args.folder.now c.end_stopped.new.folder c.remove_left_of_opened-in-Err-Input.new.folder
    (repaired_moving g.F.Folder.held g.F.Folder.may_leave g.F.Folder.moment g.F.Folder.left_since g.F.Folder.faults (IsSome c.args.requirements) c.args.folder.now c.end_stopped.new.folder c.requires.settled
    (gives_way _ c.args.requirements (g.F.Folder.held c.args.folder.now) c.args.self _ _ _ c.open_over.result c.in-Err-Input.is c.in-Err-Input.field-0-is c.open_over.ensures c.requires.named c.requires.places.0) c.end_stopped.ensures.moved)
    (repaired_removing g.F.Folder.held g.F.Folder.may_leave g.F.Folder.moment g.F.Folder.left_since g.F.Folder.faults (IsSome c.args.requirements) c.end_stopped.new.folder c.remove_left_of_opened-in-Err-Input.new.folder c.remove_left_of_opened-in-Err-Input.ensures)

pub returns-in-Err-Input-clause-repaired : goal.returns-in-Err-Input-clause-repaired
returns-in-Err-Input-clause-repaired g c =
    repaired_twice g.F.Folder.held g.F.Folder.may_leave g.F.Folder.moment g.F.Folder.left_since g.F.Folder.faults (IsSome c.args.requirements) c.args.folder.now c.end_stopped.new.folder c.remove_left_of_opened-in-Err-Input.new.folder
    (repaired_moving g.F.Folder.held g.F.Folder.may_leave g.F.Folder.moment g.F.Folder.left_since g.F.Folder.faults (IsSome c.args.requirements) c.args.folder.now c.end_stopped.new.folder c.requires.settled
    (gives_way _ c.args.requirements (g.F.Folder.held c.args.folder.now) c.args.self _ _ _ c.open_over.result c.in-Err-Input.is c.in-Err-Input.field-0-is c.open_over.ensures c.requires.named c.requires.places.0) c.end_stopped.ensures.moved)
    (repaired_removing g.F.Folder.held g.F.Folder.may_leave g.F.Folder.moment g.F.Folder.left_since g.F.Folder.faults (IsSome c.args.requirements) c.end_stopped.new.folder c.remove_left_of_opened-in-Err-Input.new.folder c.remove_left_of_opened-in-Err-Input.ensures)

pub returns-in-Err-Input-clause-places : goal.returns-in-Err-Input-clause-places
returns-in-Err-Input-clause-places g c =
    all_in_place g.F.Folder.held g.F.Folder.may_leave g.F.Folder.moment g.F.Folder.left_since g.F.Folder.faults _ c.end_stopped.new.folder c.remove_left_of_opened-in-Err-Input.new.folder c.remove_left_of_opened-in-Err-Input.ensures
    (all_settled g.F.Folder.held g.F.Folder.may_leave g.F.Folder.moment g.F.Folder.left_since g.F.Folder.faults _ c.end_stopped.new.folder (c.in_ok-end_stopped-in-Err-Input.ensures.settled c.requires.settled) c.in_ok-files-in-Err-Input.ensures.places)

pub returns-clause-repaired : goal.returns-clause-repaired
returns-clause-repaired g c = none_repaired g.F.Folder.held g.F.Folder.may_leave g.F.Folder.moment g.F.Folder.left_since g.F.Folder.faults (IsSome c.args.requirements) c.args.folder.now (λ d left. g.met.F.Folder.only_now c.args.folder.now d left)

pub returns-in_err-remove_left_of_opened-in-Ok-clause-kept : goal.returns-in_err-remove_left_of_opened-in-Ok-clause-kept
returns-in_err-remove_left_of_opened-in-Ok-clause-kept g c none =
    stays_removing g.F.Folder.held g.F.Folder.may_leave g.F.Folder.moment g.F.Folder.left_since g.F.Folder.faults (bytes_read c.args.self) c.in-Ok.session (opens_without _ c.args.requirements c.args.self.requirements.items c.args.self.locks.entries c.args.self.journal c.in-Ok.session none c.in-Ok.ensures)
    c.args.folder.now c.remove_left_of_opened.new.folder c.requires.places c.remove_left_of_opened.ensures

pub returns-in-Ok-clause-kept : goal.returns-in-Ok-clause-kept
returns-in-Ok-clause-kept g c none =
    stays_removing g.F.Folder.held g.F.Folder.may_leave g.F.Folder.moment g.F.Folder.left_since g.F.Folder.faults (bytes_read c.args.self) c.in-Ok.session (opens_without _ c.args.requirements c.args.self.requirements.items c.args.self.locks.entries c.args.self.journal c.in-Ok.session none c.in-Ok.ensures)
    c.args.folder.now c.remove_left_of_opened.new.folder c.requires.places c.remove_left_of_opened.ensures

pub returns-in_err-remove_left_of_opened-in-Err-Input-clause-kept : goal.returns-in_err-remove_left_of_opened-in-Err-Input-clause-kept
returns-in_err-remove_left_of_opened-in-Err-Input-clause-kept g c none =
    stays_twice g.F.Folder.held g.F.Folder.may_leave g.F.Folder.moment g.F.Folder.left_since g.F.Folder.faults c.args.folder.now c.end_stopped.new.folder c.remove_left_of_opened-in-Err-Input.new.folder (c.end_stopped.ensures.kept c.requires.settled)
    (stays_removing g.F.Folder.held g.F.Folder.may_leave g.F.Folder.moment g.F.Folder.left_since g.F.Folder.faults (bytes_read c.in_ok-files-in-Err-Input.files) c.in_ok-session-in-Err-Input.session
    (opens_without _ c.args.requirements c.in_ok-files-in-Err-Input.files.requirements.items c.in_ok-files-in-Err-Input.files.locks.entries c.in_ok-files-in-Err-Input.files.journal c.in_ok-session-in-Err-Input.session none c.in_ok-session-in-Err-Input.ensures)
    c.end_stopped.new.folder c.remove_left_of_opened-in-Err-Input.new.folder
    (all_settled g.F.Folder.held g.F.Folder.may_leave g.F.Folder.moment g.F.Folder.left_since g.F.Folder.faults _ c.end_stopped.new.folder (c.in_ok-end_stopped-in-Err-Input.ensures.settled c.requires.settled) c.in_ok-files-in-Err-Input.ensures.places) c.remove_left_of_opened-in-Err-Input.ensures)

pub returns-in-Err-Input-clause-kept : goal.returns-in-Err-Input-clause-kept
returns-in-Err-Input-clause-kept g c none =
    stays_twice g.F.Folder.held g.F.Folder.may_leave g.F.Folder.moment g.F.Folder.left_since g.F.Folder.faults c.args.folder.now c.end_stopped.new.folder c.remove_left_of_opened-in-Err-Input.new.folder (c.end_stopped.ensures.kept c.requires.settled)
    (stays_removing g.F.Folder.held g.F.Folder.may_leave g.F.Folder.moment g.F.Folder.left_since g.F.Folder.faults (bytes_read c.in_ok-files-in-Err-Input.files) c.in_ok-session-in-Err-Input.session
    (opens_without _ c.args.requirements c.in_ok-files-in-Err-Input.files.requirements.items c.in_ok-files-in-Err-Input.files.locks.entries c.in_ok-files-in-Err-Input.files.journal c.in_ok-session-in-Err-Input.session none c.in_ok-session-in-Err-Input.ensures)
    c.end_stopped.new.folder c.remove_left_of_opened-in-Err-Input.new.folder
    (all_settled g.F.Folder.held g.F.Folder.may_leave g.F.Folder.moment g.F.Folder.left_since g.F.Folder.faults _ c.end_stopped.new.folder (c.in_ok-end_stopped-in-Err-Input.ensures.settled c.requires.settled) c.in_ok-files-in-Err-Input.ensures.places) c.remove_left_of_opened-in-Err-Input.ensures)
