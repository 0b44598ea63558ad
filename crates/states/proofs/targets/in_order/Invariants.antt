use Rattle.std.proofs.Common.{◌≡◌, ◌++◌}
use Rattle.states.proofs.targets.in_order.Given as goal

abbrev pub invariant-loop-pair : goal.invariant-loop-pair
invariant-loop-pair l = l.list.items ++ l.pair-iterator ≡ l.fn.found.entries
