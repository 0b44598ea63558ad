use Rattle.std.proofs.Common.{take, ℕ}
use Rattle.std.specs.List.{Contains}
use Rattle.set_conflicts.proofs.need.has_each.Given as goal

abbrev pub invariant-loop-place : goal.invariant-loop-place
invariant-loop-place l = (v : ℕ) → Contains (take l.place-index l.places) v → Contains l.covered v
