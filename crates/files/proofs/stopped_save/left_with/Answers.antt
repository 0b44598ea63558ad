use Rattle.files.proofs.CompletedFiles.{found-way, none-gives, not-false, not-true}
use Rattle.files.proofs.HeldFiles.{taken_held}
use Rattle.files.proofs.stopped_save.left_with.Goals as goal

pub returns-then-not-branch-clause-none : goal.returns-then-not-branch-clause-none
returns-then-not-branch-clause-none g c =
    none-gives (g.F.HistoryFolder.may_fail c.args.folder.now) (g.F.Folder.held c.args.folder.now) c.args.beside c.in-Some.beside c.in-Some.files c.in-Some.session
    (rw c.in-Some.is at c.in_ok-beside.ensures.same).0 (rw c.in-Some.is at c.in_ok-beside.ensures.same).1 (rw c.in-Some.is at c.in_ok-beside.ensures.stand) (rw c.in-Some.is at c.in_ok-beside.ensures.opens)
    (not-true c.in_ok-gives_way.field-0 _ c.if-not-branch.true c.in_ok-gives_way.ensures.stays)

pub returns-clause-beside : goal.returns-clause-beside
returns-clause-beside g c =
    taken_held (g.F.Folder.held c.args.folder.now) c.in-Some.beside c.in-Some.files c.in_ok-beside-2.beside.items c.in_ok-beside-2.ensures.taken c.in_ok-beside-2.ensures.rising
    (rw c.in-Some.is at c.in_ok-beside.ensures.stand)

pub returns-clause-way : goal.returns-clause-way
returns-clause-way g c =
    found-way (g.F.Folder.held c.args.folder.now) c.in-Some.beside c.in-Some.files c.in-Some.session c.in_ok-going.going.items c.in_ok-beside-2.beside.items c.in_ok-beside-2.ensures.taken c.in_ok-beside-2.ensures.rising
    c.in_ok-going.ensures.gone (rw c.in-Some.is at c.in_ok-beside.ensures.stand) (rw c.in-Some.is at c.in_ok-beside.ensures.opens)
    (not-false c.in_ok-gives_way.field-0 _ c.if-not-branch.false c.in_ok-gives_way.ensures.gives)
