use Rattle.std.proofs.Common.{◌≡◌, ◌≤◌, ◌-◌, drop, map}
use Rattle.lists.specs.Rising.{rises}
use Rattle.lists.proofs.name_order.rises.Given as goal

abbrev pub invariant-loop-place : goal.invariant-loop-place
invariant-loop-place g l = (1 ≤ l.place) × (rises (drop (l.place - 1) (map g.T.Named.named l.items)) ≡ rises (map g.T.Named.named l.items))
