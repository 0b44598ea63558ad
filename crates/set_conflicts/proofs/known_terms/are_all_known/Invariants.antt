use Rattle.std.proofs.Common.{take, ℕ}
use Rattle.std.specs.List.{Contains}
use Rattle.search.specs.Known.{IsKnownTerm}
use Rattle.search.specs.declared.term.Term.{Term}
use Rattle.set_conflicts.proofs.known_terms.are_all_known.Given as goal

abbrev pub invariant-loop-term : goal.invariant-loop-term
invariant-loop-term l = (t : Term ℕ ℕ) → Contains (take l.term-index l.conflict) t → IsKnownTerm l.table t
