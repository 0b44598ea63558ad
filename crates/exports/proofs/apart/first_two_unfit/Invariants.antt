use Rattle.std.proofs.Common.{take}
use Rattle.std.specs.List.{AllByRecursion}
use Rattle.exports.specs.Joint.{Fit}
use Rattle.exports.proofs.apart.first_two_unfit.Given as goal

abbrev pub invariant-loop-one : goal.invariant-loop-one
invariant-loop-one l = AllByRecursion (λ one. AllByRecursion (Fit l.lines l.snapshot one) l.targets) (take l.one-index l.targets)
