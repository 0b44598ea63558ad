use Rattle.std.proofs.Common.{take, ℕ}
use Rattle.std.specs.List.{Contains}
use Rattle.search.specs.SetConflicts.{PairClashes}
use Rattle.search.specs.Table.{rules_of, places_eq}
use Rattle.set_conflicts.proofs.clash.does_each_clash.Given as goal

abbrev pub invariant-loop-place : goal.invariant-loop-place
invariant-loop-place l = (v : ℕ) → Contains (take l.place-index l.places) v → (w : ℕ) → Contains l.besides w → PairClashes (rules_of l.table) places_eq l.node v l.other w
