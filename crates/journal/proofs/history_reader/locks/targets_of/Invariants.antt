use Rattle.journal.proofs.PresentFacts.{ReadSoFar}
use Rattle.journal.proofs.history_reader.locks.targets_of.Given as goal

abbrev pub invariant-loop-place : goal.invariant-loop-place
invariant-loop-place l = ReadSoFar l.locks.entries l.given l.place l.targets.items
