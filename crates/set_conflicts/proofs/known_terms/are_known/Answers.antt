use Rattle.std.proofs.Common.{ℕ, List, Contains, sym, subst}
use Rattle.search.specs.Known.{IsKnownTerm}
use Rattle.search.specs.declared.term.Term.{Term}
use Rattle.set_conflicts.proofs.Listed.{item-more, each-end}
use Rattle.set_conflicts.proofs.known_terms.are_known.Goals as goal

pub loop-conflict-preserved : goal.loop-conflict-preserved
loop-conflict-preserved c = item-more (λ (conflict : List (Term ℕ ℕ)). (t : Term ℕ ℕ) → Contains conflict t → IsKnownTerm c.args.table.now t) c.args.conflicts.now c.loop-conflict.conflict-index c.conflict-item.result c.loop-conflict-test.true c.conflict-item.is c.loop-conflict.invariant
    (λ t i. c.in_ok-are_all_known.ensures c.if-not-branch.false t (subst (λ xs. Contains xs t) (sym c.as_slice.ensures) i))

pub returns : goal.returns
returns c = λ _ conflict t i. each-end (λ (conflict : List (Term ℕ ℕ)). (t : Term ℕ ℕ) → Contains conflict t → IsKnownTerm c.args.table.now t) c.args.conflicts.now c.loop-conflict.conflict-index c.loop-conflict-test.false c.loop-conflict.invariant conflict i t
