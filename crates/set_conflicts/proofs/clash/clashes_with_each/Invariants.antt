use Rattle.std.proofs.Common.{take, ℕ}
use Rattle.std.specs.List.{Contains}
use Rattle.search.specs.SetConflicts.{PairClashes}
use Rattle.search.specs.Table.{rules_of, places_eq}
use Rattle.set_conflicts.proofs.clash.clashes_with_each.Given as goal

abbrev pub invariant-loop-beside : goal.invariant-loop-beside
invariant-loop-beside l = (w : ℕ) → Contains (take l.beside-index l.besides) w → PairClashes (rules_of l.table) places_eq l.node l.place l.other w
