use Rattle.std.proofs.Common.{take}
use Rattle.std.specs.List.{AllByRecursion}
use Rattle.journal_format.specs.Tied.LawfulTargets.{IsLawfulStep}
use Rattle.journal.proofs.saved.recall_steps.Given as goal

abbrev pub invariant-loop-place : goal.invariant-loop-place
invariant-loop-place g l = AllByRecursion IsLawfulStep (take l.place (g.H.History.changes l.history))
