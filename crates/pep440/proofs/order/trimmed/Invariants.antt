use Rattle.std.proofs.Common.{◌≡◌, ◌≤◌, length, take}
use Rattle.pep440.specs.Order.{trimmed}
use Rattle.pep440.proofs.order.trimmed.Given as goal

abbrev pub invariant-loop-len : goal.invariant-loop-len
invariant-loop-len l = (l.len ≤ length l.release) × (trimmed (take l.len l.release) ≡ trimmed l.release)

abbrev pub decreases-loop-len : goal.decreases-loop-len
decreases-loop-len l = l.len
