use Rattle.std.proofs.Common.{◌≡◌, ℕ, List, take}
use Rattle.problems.specs.Tied.ByExtra.{listed_for, names_extra, places}
use Rattle.problems.proofs.by_extra.named_places.Given as goal

abbrev pub invariant-loop-place : goal.invariant-loop-place
invariant-loop-place l = (extra : List ℕ) → listed_for l.named extra ≡ places (names_extra extra) 0 (take l.place l.dependencies)
