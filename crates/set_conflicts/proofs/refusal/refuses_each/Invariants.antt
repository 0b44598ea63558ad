use Rattle.std.proofs.Common.{take, ℕ, ◌≡◌, false}
use Rattle.std.specs.List.{Contains}
use Rattle.search.specs.Table.{rules_of}
use Rattle.set_conflicts.proofs.refusal.refuses_each.Given as goal

abbrev pub invariant-loop-place : goal.invariant-loop-place
invariant-loop-place l = (v : ℕ) → Contains (take l.place-index l.places) v → (rules_of l.table).admits l.requirement v ≡ false
