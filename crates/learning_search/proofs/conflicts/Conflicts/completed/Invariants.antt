use Rattle.std.proofs.Common.{◌≤◌, length}
use Rattle.learning_search.proofs.conflicts.Conflicts.completed.Given as goal

abbrev pub invariant-loop-at : goal.invariant-loop-at
invariant-loop-at l = l.bound ≤ length l.self.links.items

abbrev pub decreases-loop-at : goal.decreases-loop-at
decreases-loop-at l = l.bound
