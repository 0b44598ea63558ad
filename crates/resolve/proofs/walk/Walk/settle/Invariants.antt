use Rattle.std.proofs.Common.{◌≡◌, ◌-◌, ◌+◌, ◌*◌, drop, length}
use Rattle.problems.specs.Tied.Growing.{nodes_met, requirements_met}
use Rattle.resolve.specs.Tied.Walking.{IsOnWay}
use Rattle.resolve.proofs.walk.Walk.settle.Given as goal

abbrev pub invariant-loop-at : goal.invariant-loop-at
invariant-loop-at l = record {
  same : l.self.following.wants ≡ l.fn.self.following.wants;
  taken : l.self.taken ≡ l.fn.self.taken;
  way : IsOnWay l.fn.self.following.wants l.fn.self.taken.entries l.self.waiting.entries l.self.following.nodes (drop l.at l.asks);
}

-- what the nodes that may still be followed can want, and what is to be placed
abbrev pub decreases-loop-at : goal.decreases-loop-at
decreases-loop-at l = length (nodes_met l.fn.self.following.wants) * length (requirements_met l.fn.self.following.wants) - length l.self.following.nodes * length (requirements_met l.fn.self.following.wants) + (length l.asks - l.at)
