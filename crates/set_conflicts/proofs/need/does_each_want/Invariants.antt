use Rattle.std.proofs.Common.{take, ℕ}
use Rattle.std.specs.List.{Contains}
use Rattle.search.specs.Table.{rules_of}
use Rattle.set_conflicts.proofs.need.does_each_want.Given as goal

abbrev pub invariant-loop-place : goal.invariant-loop-place
invariant-loop-place l = (v : ℕ) → Contains (take l.place-index l.places) v → (wanted : ℕ) × Contains ((rules_of l.table).wants l.by v) wanted × Contains ((rules_of l.table).nodes wanted) l.node
