use Rattle.std.proofs.Common.{◌≡◌}
use Rattle.files.proofs.TriedLocks.{AreTried}
use Rattle.files.specs.Completed.{IsUnless}
use Rattle.files.proofs.stopped_save.completed.Given as goal

-- the requirements file and the journal are taken from where they were; and each way that took more than the first files takes more than these
abbrev pub invariant-loop-tried : goal.invariant-loop-tried
invariant-loop-tried g l =
    ((l.beside.requirements ≡ l.fn.beside.requirements) × (l.beside.journal ≡ l.fn.beside.journal))
    × IsUnless (g.F.HistoryFolder.may_fail l.folder) (g.F.Folder.held l.folder) (AreTried l.fn.beside l.beside l._tried l.count)
