-- Conflicts of choices, as conflicts of sets with one version in each.
use Rattle.std.specs.Prelude.{List, [], ◌∷◌, map}
use Rattle.search.specs.declared.conflict.NodeChoice.{NodeChoice}
use Rattle.search.specs.declared.term.Term.{Term}

-- the choice's node with its version alone
abbrev pub term_of : {X V : Type 0} → NodeChoice X V → Term X V
term_of c = record { node = c.node; versions = c.version ∷ [] }

abbrev pub terms_of : {X V : Type 0} → List (NodeChoice X V) → List (Term X V)
terms_of conflict = map term_of conflict

abbrev pub as_sets : {X V : Type 0} → List (List (NodeChoice X V)) → List (List (Term X V))
as_sets conflicts = map terms_of conflicts
