use Rattle.std.proofs.Common.{◌∙◌, ◌+◌, refl, sym}
use Rattle.files.proofs.CompletedFiles.{answered-none, answered-some}
use Rattle.files.proofs.FaultyFiles.{file-alone, try-first, try-last, try-next, try-none}
use Rattle.files.proofs.HeldFiles.{completed_held}
use Rattle.files.specs.Beside.{StandFor}
use Rattle.files.specs.NextLocks.{IsNext}
use Rattle.files.proofs.stopped_save.completed.Goals as goal

pub loop-tried-init : goal.loop-tried-init
loop-tried-init g c = ((refl, refl), try-first (g.F.HistoryFolder.may_fail c.args.folder.now) (g.F.Folder.held c.args.folder.now) c.args.beside c.in_ok-count.count c.in_ok-count.ensures.counted)

pub returns-then-not-branch-clause-none : goal.returns-then-not-branch-clause-none
returns-then-not-branch-clause-none g c =
    try-none (g.F.HistoryFolder.may_fail c.args.folder.now) (g.F.Folder.held c.args.folder.now) c.args.beside c.loop-tried.beside c.loop-tried._tried c.in_ok-count.count c.in_ok-file_at_fault-in-Err.field-0 c.loop-tried.invariant.1
    (file-alone (g.F.HistoryFolder.may_fail c.args.folder.now) (g.F.Folder.held c.args.folder.now) (IsNext c.loop-tried.beside) c.in-Err.fault c.in_ok-file_at_fault-in-Err.field-0 c.in-Err.ensures.fault (sym c.in_ok-file_at_fault-in-Err.ensures))
    (sym c.in_ok-add_lock-in-Err.ensures.added ∙ c.if-not-branch.true)

pub loop-tried-preserved : goal.loop-tried-preserved
loop-tried-preserved g c =
    let takes = c.in_ok-add_lock-in-Err.ensures.takes in (
      (takes.requirements ∙ c.loop-tried.invariant.0.0, takes.journal ∙ c.loop-tried.invariant.0.1),
      try-next (g.F.HistoryFolder.may_fail c.args.folder.now) (g.F.Folder.held c.args.folder.now) c.args.beside c.loop-tried.beside c.add_lock.new.beside c.loop-tried._tried (c.loop-tried._tried + 1) c.in_ok-count.count c.in_ok-file_at_fault-in-Err.field-0 refl c.loop-tried.invariant.1
          (file-alone (g.F.HistoryFolder.may_fail c.args.folder.now) (g.F.Folder.held c.args.folder.now) (IsNext c.loop-tried.beside) c.in-Err.fault c.in_ok-file_at_fault-in-Err.field-0 c.in-Err.ensures.fault (sym c.in_ok-file_at_fault-in-Err.ensures))
          takes,
    )

pub returns-clause-stand : goal.returns-clause-stand
returns-clause-stand g c = completed_held (g.F.Folder.held c.args.folder.now) c.loop-tried.beside c.open_with-opened.result c.completed_by.result c.completed_by.ensures c.open_with-opened.ensures.stand

pub returns-clause-opens : goal.returns-clause-opens
returns-clause-opens g c = answered-some (λ found. StandFor found.1 found.2) c.loop-tried.beside c.open_with-opened.result c.completed_by.result c.completed_by.ensures c.open_with-opened.ensures.opens

pub returns-clause-none : goal.returns-clause-none
returns-clause-none g c =
    answered-none (g.F.HistoryFolder.may_fail c.args.folder.now) (g.F.Folder.held c.args.folder.now) (IsNext c.loop-tried.beside) _
    (λ file of. try-last (g.F.HistoryFolder.may_fail c.args.folder.now) (g.F.Folder.held c.args.folder.now) c.args.beside c.loop-tried.beside c.loop-tried._tried c.in_ok-count.count file c.loop-tried-test.false c.loop-tried.invariant.1 of)
    c.loop-tried.beside c.open_with-opened.result c.completed_by.result c.completed_by.ensures c.open_with-opened.ensures.fault
