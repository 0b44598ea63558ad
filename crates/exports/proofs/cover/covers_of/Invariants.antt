use Rattle.std.proofs.Common.{◌≡◌, map, take}
use Rattle.std.specs.List.{AllByRecursion}
use Rattle.exports.specs.Tied.Covers.{IsCover}
use Rattle.exports.proofs.cover.covers_of.Given as goal

abbrev pub invariant-loop-target : goal.invariant-loop-target
invariant-loop-target l = (map (λ cover. cover.target) l.covers.items ≡ take l.target-index l.targets) × AllByRecursion (IsCover l.lines l.snapshot) l.covers.items
