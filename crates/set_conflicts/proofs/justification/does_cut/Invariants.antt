use Rattle.std.proofs.Common.{take, ℕ}
use Rattle.std.specs.List.{Contains}
use Rattle.search.specs.declared.term.Term.{Term}
use Rattle.set_conflicts.specs.Tied.Domains.{HoldsBut}
use Rattle.set_conflicts.proofs.justification.does_cut.Given as goal

abbrev pub invariant-loop-term : goal.invariant-loop-term
invariant-loop-term l = (t : Term ℕ ℕ) → Contains (take l.term-index l.conflict) t → HoldsBut l.domains l.cut.node l.cut.versions t
