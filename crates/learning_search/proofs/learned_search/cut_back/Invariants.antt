use Rattle.std.proofs.Common.{ℕ, List, [], ◌++◌, ◌≡◌, Contains, vec_len, slice_index_or}
use Rattle.search.specs.declared.conflict.NodeChoice.{NodeChoice}
use Rattle.learning_search.specs.declared.assignment.Assignment.{Assignment}
use Rattle.learning_search.specs.Tied.Learned.{decisions_of}
use Rattle.learning_search.specs.Tied.Learning.{IsLearned}
use Rattle.learning_search.proofs.learned_search.cut_back.Given as goal

abbrev pub invariant-loop-assignment : goal.invariant-loop-assignment
invariant-loop-assignment l = record {
  rest : List Assignment;
  split : l.fn.partial.assignments.items ≡ l.partial.assignments.items ++ rest;
  learned : IsLearned l.table l.partial l.conflicts.list.items;
  within : (c : NodeChoice ℕ ℕ) → Contains (slice_index_or l.conflicts.list.items l.at []) c → Contains (decisions_of l.partial.assignments.items) c;
}

abbrev pub decreases-loop-assignment : goal.decreases-loop-assignment
decreases-loop-assignment l = vec_len l.partial.assignments
