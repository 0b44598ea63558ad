-- Lists of nodes that grow.
-- Tied to `Needed` by the contracts of the searches; need not be read.
use Rattle.std.specs.Prelude.{ℕ, List, [], ◌∷◌, ◌++◌, Option, Some, None, ◌≡◌, ◌⊎◌, true, false, take, Bool}
use Rattle.std.specs.List.{Contains, slice_index_or}
use Rattle.search.specs.Rules.{Rules}
use Rattle.search.specs.Solutions.{Needed}

-- no element is one of those behind it
abbrev pub Distinct : {X : Type 0} → List X → Type 0
Distinct [] = Unit {0}
Distinct (x ∷ xs) = (Contains xs x → ⊥) × Distinct xs

-- the members of a set of nodes, each less than its room
pub record Nodes : Type 0 where
  pub members : List ℕ
  pub room : ℕ

-- the marks are true at the members alone
pub record IsMarked (members : List ℕ) (marks : List Bool) : Type 0 where
  pub distinct : Distinct members
  pub marked : (node : ℕ) → Contains members node → slice_index_or marks node false ≡ true
  pub member : (node : ℕ) → slice_index_or marks node false ≡ true → Contains members node

-- new is old, and perhaps more behind it
abbrev pub Extends : List ℕ → List ℕ → Type 0
Extends old new = (more : List ℕ) × (new ≡ old ++ more)

-- new is old with what is wanted and wasn't there behind it
pub record Grows (old new wanted : List ℕ) : Type 0 where
  pub more : List ℕ
  pub extended : new ≡ old ++ more
  pub added : (node : ℕ) → Contains wanted node → Contains new node
  pub only : (node : ℕ) → Contains new node → Contains old node ⊎ Contains wanted node

-- the set grows by what is wanted
pub record IsGrown (old new : Nodes) (wanted : List ℕ) : Type 0 where
  pub grows : Grows old.members new.members wanted
  pub room : new.room ≡ old.room

-- the nodes that requirements need
abbrev pub nodes_required : Rules ℕ ℕ ℕ ℕ → List ℕ → List ℕ
nodes_required rules [] = []
nodes_required rules (r ∷ rs) = rules.nodes r ++ nodes_required rules rs

-- the nodes that a node leads to, with this release of its name
abbrev pub nodes_linked : Rules ℕ ℕ ℕ ℕ → ℕ → Option ℕ → List ℕ
nodes_linked rules node None = []
nodes_linked rules node (Some place) = nodes_required rules (rules.wants node place)

-- what this release of a node's name requires there
abbrev pub wants_linked : Rules ℕ ℕ ℕ ℕ → ℕ → Option ℕ → List ℕ
wants_linked rules node None = []
wants_linked rules node (Some place) = rules.wants node place

-- the walk through needed nodes, as far as the first `at` nodes have been followed
pub record IsClosing (rules : Rules ℕ ℕ ℕ ℕ) (chosen : ℕ → Option ℕ) (nodes : List ℕ) (at : ℕ) : Type 0 where
  pub sound : (node : ℕ) → Contains nodes node → Needed rules chosen node
  pub lines : (node : ℕ) → Contains (nodes_required rules rules.lines) node → Contains nodes node
  pub linked : (link node : ℕ) → Contains (take at nodes) link → Contains (nodes_linked rules link (chosen (rules.on link))) node → Contains nodes node
