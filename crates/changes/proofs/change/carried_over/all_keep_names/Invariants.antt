use Rattle.std.proofs.Common.{take}
use Rattle.std.specs.List.{AllByRecursion}
use Rattle.changes.specs.Tied.CarriedOver.{KeepNames}
use Rattle.changes.proofs.change.carried_over.all_keep_names.Given as goal

abbrev pub invariant-loop-target : goal.invariant-loop-target
invariant-loop-target l = AllByRecursion (KeepNames l.lines l.some) (take l.target-index l.targets)
