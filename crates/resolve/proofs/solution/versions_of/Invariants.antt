use Rattle.std.proofs.Common.{◌≡◌, ◌≤◌, List, ℕ, drop, length}
use Rattle.problems.specs.Solutions.{version_for}
use Rattle.resolve.specs.Tied.Pictured.{chosen}
use Rattle.resolve.proofs.solution.versions_of.Given as goal

abbrev pub decreases-loop-left : goal.decreases-loop-left
decreases-loop-left l = l.left

abbrev pub invariant-loop-left : goal.invariant-loop-left
invariant-loop-left l = (l.left ≤ length l.choices) × ((name : List ℕ) → version_for l.versions.entries name ≡ chosen l.problem l.names (drop l.left l.choices) name)
