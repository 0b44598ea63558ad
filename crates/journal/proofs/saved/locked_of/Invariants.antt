use Rattle.std.proofs.Common.{take}
use Rattle.journal.specs.Tied.LocksWritten.{AreLocked}
use Rattle.journal.proofs.saved.locked_of.Given as goal

abbrev pub invariant-loop-place : goal.invariant-loop-place
invariant-loop-place l = AreLocked (take l.place l.targets) l.locked
