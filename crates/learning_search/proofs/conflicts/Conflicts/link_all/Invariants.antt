use Rattle.std.proofs.Common.{◌≡◌}
use Rattle.learning_search.proofs.conflicts.Conflicts.link_all.Given as goal

abbrev pub invariant-loop-decision : goal.invariant-loop-decision
invariant-loop-decision l = l.self.list.items ≡ l.fn.self.list.items
