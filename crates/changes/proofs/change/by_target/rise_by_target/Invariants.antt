use Rattle.std.proofs.Common.{◌≡◌, ◌≤◌, ◌-◌, drop}
use Rattle.changes.specs.Changes.{rise_by_target}
use Rattle.changes.proofs.change.by_target.rise_by_target.Given as goal

abbrev pub invariant-loop-place : goal.invariant-loop-place
invariant-loop-place l = (1 ≤ l.place) × (rise_by_target (drop (l.place - 1) l.changes) ≡ rise_by_target l.changes)
