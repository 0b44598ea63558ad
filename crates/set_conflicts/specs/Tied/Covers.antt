-- Which versions at a node complete an earlier conflict.
-- Tied to `SetFollows` by the contract of `follows`; need not be read.
use Rattle.std.specs.Prelude.{ℕ, List, ◌≡◌, ◌⊎◌}
use Rattle.std.specs.List.{Contains}
use Rattle.lists.specs.Bits.{LiesWithin}
use Rattle.search.specs.declared.term.Term.{Term}
use Rattle.search.specs.SetConflicts.{BindsWithin, CompletesSet}
use Rattle.search.specs.Table.{places_eq}

-- the conflict binds the term, or the term is on the node and has these places
abbrev pub IsBoundOrAt : List (Term ℕ ℕ) → ℕ → List ℕ → Term ℕ ℕ → Type 0
IsBoundOrAt conflict node places t = BindsWithin places_eq conflict t ⊎ ((t.node ≡ node) × LiesWithin places t.versions)

-- so it is with each term of the old conflict
abbrev pub IsCompletedBy : List (Term ℕ ℕ) → ℕ → List ℕ → List (Term ℕ ℕ) → Type 0
IsCompletedBy conflict node places old = (t : Term ℕ ℕ) → Contains old t → IsBoundOrAt conflict node places t

-- with each of these places at the node the conflict contains an earlier one
abbrev pub Covers : List (List (Term ℕ ℕ)) → List (Term ℕ ℕ) → ℕ → List ℕ → Type 0
Covers earlier conflict node covered = (v : ℕ) → Contains covered v → CompletesSet places_eq earlier conflict node v
