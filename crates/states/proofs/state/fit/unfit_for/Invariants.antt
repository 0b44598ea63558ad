use Rattle.std.proofs.Common.{take}
use Rattle.std.specs.List.{AllByRecursion}
use Rattle.states.specs.State.{Fits}
use Rattle.states.proofs.state.fit.unfit_for.Given as goal

abbrev pub invariant-loop-target : goal.invariant-loop-target
invariant-loop-target l = AllByRecursion (Fits l.lines l.digest) (take l.target-index l.targets)
