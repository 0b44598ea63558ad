use Rattle.std.proofs.Common.{take, ℕ, List}
use Rattle.std.specs.List.{Contains}
use Rattle.search.specs.Known.{IsKnownTerm}
use Rattle.search.specs.declared.term.Term.{Term}
use Rattle.set_conflicts.proofs.known_terms.are_known.Given as goal

abbrev pub invariant-loop-conflict : goal.invariant-loop-conflict
invariant-loop-conflict l = (conflict : List (Term ℕ ℕ)) → Contains (take l.conflict-index l.conflicts) conflict → (t : Term ℕ ℕ) → Contains conflict t → IsKnownTerm l.table t
