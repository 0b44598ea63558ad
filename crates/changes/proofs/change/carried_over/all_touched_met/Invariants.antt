use Rattle.std.proofs.Common.{take}
use Rattle.std.specs.List.{AllByRecursion}
use Rattle.pylock.specs.Locks.{IsLock}
use Rattle.changes.specs.Tied.CarriedOver.{AreTouchedMet}
use Rattle.changes.proofs.change.carried_over.all_touched_met.Given as goal

abbrev pub invariant-loop-target : goal.invariant-loop-target
invariant-loop-target l = AllByRecursion (λ t. AreTouchedMet l.changes l.put l.lines t × IsLock t.lock) (take l.target-index l.targets)
