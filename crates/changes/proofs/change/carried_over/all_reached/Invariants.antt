use Rattle.std.proofs.Common.{take}
use Rattle.std.specs.List.{AllByRecursion}
use Rattle.changes.specs.Tied.CarriedOver.{IsReachedFrom}
use Rattle.changes.proofs.change.carried_over.all_reached.Given as goal

abbrev pub invariant-loop-target : goal.invariant-loop-target
invariant-loop-target l = AllByRecursion (IsReachedFrom l.lines) (take l.target-index l.targets)
