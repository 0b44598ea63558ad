use Rattle.files.proofs.FolderRuns.{none_moved}
use Rattle.std.proofs.Common.{subst, sym}
use Rattle.folder.specs.Calls.{IsSettled, Ran}
use Rattle.folder.specs.Repairs.{IsMoveOf}
use Rattle.files.proofs.stopped_save.end_left.Goals as goal
use Rattle.files.proofs.stopped_save.end_left.Goals.{then-branch+in_ok-does_not_open+then-branch-2+in_ok-end_stopped, else-branch}

pub returns-in_err-named-clause-moved : goal.returns-in_err-named-clause-moved
returns-in_err-named-clause-moved g c = none_moved g.F.Folder.held g.F.Folder.may_leave g.F.Folder.moment g.F.Folder.left_since g.F.Folder.faults c.args.folder.now (λ d left. g.met.F.Folder.only_now c.args.folder.now d left)

pub returns-in_err-is_any_left-clause-moved : goal.returns-in_err-is_any_left-clause-moved
returns-in_err-is_any_left-clause-moved g c = none_moved g.F.Folder.held g.F.Folder.may_leave g.F.Folder.moment g.F.Folder.left_since g.F.Folder.faults c.args.folder.now (λ d left. g.met.F.Folder.only_now c.args.folder.now d left)

pub returns-in_err-does_not_open-clause-moved : goal.returns-in_err-does_not_open-clause-moved
returns-in_err-does_not_open-clause-moved g c = none_moved g.F.Folder.held g.F.Folder.may_leave g.F.Folder.moment g.F.Folder.left_since g.F.Folder.faults c.args.folder.now (λ d left. g.met.F.Folder.only_now c.args.folder.now d left)

pub returns-in_err-end_stopped-clause-moved : goal.returns-in_err-end_stopped-clause-moved
returns-in_err-end_stopped-clause-moved g c = c.end_stopped.ensures.moved

pub returns-clause-moved : goal.returns-clause-moved
returns-clause-moved g c =
    elim c.if-branch.branch [
      | then-branch+in_ok-does_not_open+then-branch-2+in_ok-end_stopped w ↦ subst (λ f. Ran g.F.Folder.held g.F.Folder.may_leave g.F.Folder.moment g.F.Folder.left_since g.F.Folder.faults IsMoveOf IsMoveOf c.args.folder.now f) (sym w.folder-is) w.end_stopped.ensures.moved
      | else-branch w ↦
          subst (λ f. Ran g.F.Folder.held g.F.Folder.may_leave g.F.Folder.moment g.F.Folder.left_since g.F.Folder.faults IsMoveOf IsMoveOf c.args.folder.now f) (sym w.folder-is)
          (none_moved g.F.Folder.held g.F.Folder.may_leave g.F.Folder.moment g.F.Folder.left_since g.F.Folder.faults c.args.folder.now (λ d left. g.met.F.Folder.only_now c.args.folder.now d left))
    ]

pub returns-clause-settled : goal.returns-clause-settled
returns-clause-settled g c settled =
    elim c.if-branch.branch [
      | then-branch+in_ok-does_not_open+then-branch-2+in_ok-end_stopped w ↦
          subst (λ f. IsSettled g.F.Folder.held g.F.Folder.may_leave f) (sym w.folder-is) (w.in_ok-end_stopped.ensures.settled settled)
      | else-branch w ↦ subst (λ f. IsSettled g.F.Folder.held g.F.Folder.may_leave f) (sym w.folder-is) settled
    ]
