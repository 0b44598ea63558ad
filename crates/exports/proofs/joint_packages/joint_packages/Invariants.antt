use Rattle.std.proofs.Common.{◌≡◌, map, take}
use Rattle.std.specs.List.{AllByRecursion}
use Rattle.exports.specs.Tied.JointPackages.{IsPackageOf}
use Rattle.exports.proofs.joint_packages.joint_packages.Given as goal

abbrev pub invariant-loop-entry : goal.invariant-loop-entry
invariant-loop-entry l = (map (λ p. p.entry) l.packages.items ≡ take l.entry-index l.entries) × AllByRecursion (IsPackageOf l.covers) l.packages.items
