use Rattle.std.proofs.Common.{◌≡◌, take}
use Rattle.lists.proofs.lent.Lent.of.Given as goal

abbrev pub invariant-loop-item : goal.invariant-loop-item
invariant-loop-item g l = l.lent ≡ take l.item-index l.items
