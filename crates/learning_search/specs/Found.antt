-- What a search gives out.
use Rattle.std.specs.Prelude.{ℕ, List}
use Rattle.search.specs.declared.conflict.NodeChoice.{NodeChoice}
use Rattle.learning_search.specs.declared.learned_search.Found.{Found}
use Rattle.learning_search.specs.declared.learned_search.Found.TheVariants.{Best, Refuted}
use Rattle.search.specs.declared.parts.TableChoice.{TableChoice}

-- the one holds of the choices of a best solution, the other of the conflicts of a refutation
abbrev pub MatchFound : Found → (List TableChoice → Type 0) → (List (List (NodeChoice ℕ ℕ)) → Type 0) → Type 0
MatchFound (Best choices) best refuted = best choices
MatchFound (Refuted conflicts) best refuted = refuted conflicts
