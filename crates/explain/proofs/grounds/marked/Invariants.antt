use Rattle.std.proofs.Common.{◌<◌, ℕ, Contains, length}
use Rattle.explain.proofs.grounds.marked.Given as goal

abbrev pub invariant-loop-at : goal.invariant-loop-at
invariant-loop-at l = (place : ℕ) → Contains l.found.items place → place < length l.earlier
