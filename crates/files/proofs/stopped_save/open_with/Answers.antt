use Rattle.std.proofs.Common.{subst, sym}
use Rattle.std.proofs.lemmas.Result.{err_from_is_err_and}
use Rattle.files.proofs.FaultyFiles.{next-refused, next-unread}
use Rattle.files.specs.NextLocks.{IsFaultOf, IsNext}
use Rattle.files.proofs.stopped_save.open_with.Goals as goal

pub returns-in_err-files-clause-fault : goal.returns-in_err-files-clause-fault
returns-in_err-files-clause-fault g c =
    let p = err_from_is_err_and c.from_residual.result c.from_residual.ensures.1 in
    let held = g.F.Folder.held c.args.folder.now in
    let may_fail = g.F.HistoryFolder.may_fail c.args.folder.now in
    rw p.1 (subst (IsFaultOf may_fail held (IsNext c.args.beside.now)) (sym p.2) (next-unread may_fail held c.args.beside.now c.in_err-files.field-0.0 c.in_err-files.ensures.fault))

pub returns-in_err-session-clause-fault : goal.returns-in_err-session-clause-fault
returns-in_err-session-clause-fault g c =
    let p = err_from_is_err_and c.from_residual-in_err-session.result c.from_residual-in_err-session.ensures.1 in
    let held = g.F.Folder.held c.args.folder.now in
    let may_fail = g.F.HistoryFolder.may_fail c.args.folder.now in
    rw p.1
    (subst (IsFaultOf may_fail held (IsNext c.args.beside.now)) (sym p.2)
    (next-refused may_fail held c.args.beside.now c.in_ok-files.files c.in_err-session.field-0.0 c.in_ok-files.ensures.stand c.in_ok-files.ensures.named c.in_err-session.ensures))
