use Rattle.std.proofs.Common.{take}
use Rattle.std.specs.List.{AllByRecursion}
use Rattle.changes.specs.Tied.CarriedOver.{KeepsNeeds}
use Rattle.changes.proofs.change.carried_over.keep_needs.Given as goal

abbrev pub invariant-loop-change : goal.invariant-loop-change
invariant-loop-change l = AllByRecursion KeepsNeeds (take l.change-index l.changes)
