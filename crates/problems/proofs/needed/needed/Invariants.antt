use Rattle.std.proofs.Common.{◌≡◌, ◌-◌, ◌≤◌, length}
use Rattle.problems.proofs.Closing.{IsClosing}
use Rattle.problems.proofs.needed.needed.Given as goal
use Rattle.problems.specs.Tied.Growing.{nodes_met}
use Rattle.problems.specs.Solutions.{version_for}

abbrev pub invariant-loop-at : goal.invariant-loop-at
invariant-loop-at l = record {
  same : l.wants ≡ l.fn.problem;
  closing : IsClosing l.fn.problem (version_for l.versions.entries) l.nodes l.at;
  within : l.at ≤ length l.nodes;
}

-- the nodes that may still be followed
abbrev pub decreases-loop-at : goal.decreases-loop-at
decreases-loop-at l = length (nodes_met l.fn.problem) - l.at
