use Rattle.std.proofs.Common.{take}
use Rattle.std.specs.List.{AllByRecursion}
use Rattle.journal_format.specs.Tied.LawfulTargets.{IsLawfulTarget}
use Rattle.journal.proofs.saved.recall_targets.Given as goal

abbrev pub invariant-loop-place : goal.invariant-loop-place
invariant-loop-place l = AllByRecursion IsLawfulTarget (take l.place l.changes)
