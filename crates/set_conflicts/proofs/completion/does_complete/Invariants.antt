use Rattle.std.proofs.Common.{take, ℕ}
use Rattle.std.specs.List.{Contains}
use Rattle.search.specs.declared.term.Term.{Term}
use Rattle.set_conflicts.specs.Tied.Covers.{IsBoundOrAt}
use Rattle.set_conflicts.proofs.completion.does_complete.Given as goal

abbrev pub invariant-loop-term : goal.invariant-loop-term
invariant-loop-term l = (t : Term ℕ ℕ) → Contains (take l.term-index l.old) t → IsBoundOrAt l.conflict l.node l.places t
