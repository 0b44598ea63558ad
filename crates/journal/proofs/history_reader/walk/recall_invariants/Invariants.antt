use Rattle.std.proofs.Common.{take}
use Rattle.std.specs.List.{AllByRecursion}
use Rattle.changes.specs.Changes.{IsMinimal}
use Rattle.journal.proofs.history_reader.walk.recall_invariants.Given as goal

abbrev pub invariant-loop-place : goal.invariant-loop-place
invariant-loop-place l = AllByRecursion IsMinimal (take l.place l.changes)
