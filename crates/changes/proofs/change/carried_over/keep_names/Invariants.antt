use Rattle.std.proofs.Common.{take}
use Rattle.std.specs.List.{AllByRecursion}
use Rattle.changes.specs.Tied.CarriedOver.{KeepsName}
use Rattle.changes.proofs.change.carried_over.keep_names.Given as goal

abbrev pub invariant-loop-line : goal.invariant-loop-line
invariant-loop-line l = AllByRecursion (KeepsName l.target.environment l.lines) (take l.line-index l.some)
