use Rattle.std.proofs.Common.{◌≡◌, ◌-◌, [], length}
use Rattle.problems.specs.Tied.Growing.{nodes_met}
use Rattle.resolve.specs.Tied.Walking.{IsOnWay}
use Rattle.resolve.proofs.walk.first_walk.Given as goal

abbrev pub invariant-turns : goal.invariant-turns
invariant-turns l = record {
  same : l.walk.following.wants ≡ l.fn.problem;
  way : IsOnWay l.fn.problem l.walk.taken.entries l.walk.waiting.entries l.walk.following.nodes [];
}

-- the names that may still be taken
abbrev pub decreases-turns : goal.decreases-turns
decreases-turns l = length (nodes_met l.fn.problem) - length l.walk.taken.entries
