use Rattle.std.proofs.Common.{take}
use Rattle.std.specs.List.{AllByRecursion}
use Rattle.exports.specs.Joint.{Fit}
use Rattle.exports.proofs.apart.first_unfit.Given as goal

abbrev pub invariant-loop-other : goal.invariant-loop-other
invariant-loop-other l = AllByRecursion (Fit l.lines l.snapshot l.one) (take l.other-index l.targets)
