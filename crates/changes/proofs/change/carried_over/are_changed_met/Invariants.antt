use Rattle.std.proofs.Common.{take}
use Rattle.std.specs.List.{AllByRecursion}
use Rattle.changes.specs.Tied.CarriedOver.{IsChangedMet}
use Rattle.changes.proofs.change.carried_over.are_changed_met.Given as goal

abbrev pub invariant-loop-line : goal.invariant-loop-line
invariant-loop-line l = AllByRecursion (IsChangedMet l.environment l.entries l.changes) (take l.line-index l.lines)
