use Rattle.std.proofs.Common.{IfSome}
use Rattle.files.specs.Beside.{has}
use Rattle.files.specs.Places.{LocksStandAt}
use Rattle.files.proofs.NamedLocks.{HaveNamesWith}
use Rattle.files.proofs.reading.locks_in.Given as goal

-- the locks so far stand there, and with one of each name that is left they have the names
abbrev pub invariant-loop-name : goal.invariant-loop-name
invariant-loop-name g l = IfSome (g.F.Folder.held l.folder) (λ h. LocksStandAt (has l.beside) h l.locks.entries) × HaveNamesWith l.locks.entries l.name-iterator.rest.items l.fn.names
