use Rattle.std.proofs.Common.{ℕ, List, subst}
use Rattle.search.specs.Known.{AreKnownSets}
use Rattle.search.specs.declared.term.Term.{Term}
use Rattle.set_search.proofs.verdict.known_refutation.Goals as goal

pub returns-clause-known : goal.returns-clause-known
returns-clause-known c = subst (λ (list : List (List (Term ℕ ℕ))). AreKnownSets c.args.table.now list) c.as_slice.ensures (c.in_ok-are_known.ensures c.if-not-branch.false)
