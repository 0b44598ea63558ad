-- What is required by the choices of a search, for each name.
-- Tied to `IsBest` by the contract of `learned_best`; need not be read.
use Rattle.std.specs.Prelude.{ℕ, zero, suc, List, [], ◌∷◌, ◌++◌, Option, Some, None, ◌≡◌, ◌⊎◌, ◌==◌, ◌<◌, length}
use Rattle.std.specs.List.{Contains, filter, slice_index_or}
use Rattle.std.specs.Global.{Vec}
use Rattle.std.specs.BTreeSet.{keys}
use Rattle.learning_search.specs.declared.demands.Demands.{Demands}
use Rattle.learning_search.specs.declared.demands.Demand.{Demand}
use Rattle.search.specs.declared.conflict.NodeChoice.{NodeChoice}
use Rattle.learning_search.specs.Tied.Gathering.{decision}
use Rattle.search.specs.Rules.{Rules}
use Rattle.search.specs.Table.{TableParts, rules_of}

abbrev pub DemandValue : Type 0
DemandValue = Demand

abbrev pub row_at : List (Vec Demand) → ℕ → List Demand
row_at [] n = []
row_at (row ∷ rows) zero = row.items
row_at (row ∷ rows) (suc n) = row_at rows n

-- one row has something more behind it
pub record IsListed (old new : List (Vec Demand)) (name : ℕ) (demand : Demand) : Type 0 where
  pub room : length new ≡ length old
  pub own : row_at new name ≡ row_at old name ++ demand ∷ []
  pub others : (n : ℕ) → (n ≡ name → ⊥) → row_at new n ≡ row_at old n

-- what is required on a name
abbrev pub demands_on : Rules ℕ ℕ ℕ ℕ → ℕ → List Demand → List Demand
demands_on rules n listed = filter (λ a. rules.name a.requirement == n) listed

-- the node has a choice
abbrev pub IsChosen : List (NodeChoice ℕ ℕ) → ℕ → Type 0
IsChosen chosen node = (v : ℕ) × Contains chosen (decision node v)

-- the rows have what is required on each name
pub record AreRowed (t : TableParts) (demands : Demands) : Type 0 where
  pub room : length demands.rows.items ≡ length t.candidates
  pub known : (a : Demand) → Contains demands.listed.items a → a.requirement < length t.requirements
  pub rows : (n : ℕ) → row_at demands.rows.items n ≡ demands_on (rules_of t) n demands.listed.items

-- a name with no version on which something is required is free, and one with a version, where a node that is required has no choice, is one to check
pub record IsWatched (t : TableParts) (demands : Demands) (taken : List (Option (NodeChoice ℕ ℕ))) (chosen : List (NodeChoice ℕ ℕ)) : Type 0 where
  pub free : (a : Demand) → Contains demands.listed.items a → slice_index_or taken ((rules_of t).name a.requirement) None ≡ None → Contains (keys demands.free) ((rules_of t).name a.requirement)
  pub names_to_check : (a : Demand) (d : NodeChoice ℕ ℕ) (node : ℕ) → Contains demands.listed.items a → slice_index_or taken ((rules_of t).name a.requirement) None ≡ Some d → Contains ((rules_of t).nodes a.requirement) node → IsChosen chosen node ⊎ Contains demands.names_to_check.items ((rules_of t).name a.requirement)
