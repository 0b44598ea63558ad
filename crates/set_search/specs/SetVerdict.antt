-- What the search over sets gives out.
use Rattle.std.specs.Prelude.{ℕ, List}
use Rattle.search.specs.declared.parts.TableChoice.{TableChoice}
use Rattle.search.specs.declared.term.Term.{Term}
use Rattle.set_search.specs.declared.verdict.SetVerdict.{SetVerdict}
use Rattle.set_search.specs.declared.verdict.SetVerdict.TheVariants.{Best, Refuted, GaveUp}

-- the one holds of the choices of a best solution, the other of the conflicts of a refutation; nothing is said where the search gave up
abbrev pub MatchSetVerdict : SetVerdict → (List TableChoice → Type 0) → (List (List (Term ℕ ℕ)) → Type 0) → Type 0
MatchSetVerdict (Best choices) best refuted = best choices
MatchSetVerdict (Refuted conflicts) best refuted = refuted conflicts
MatchSetVerdict GaveUp best refuted = Unit {0}
