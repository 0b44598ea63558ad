-- The rules that a table of numbers stands for.
use Rattle.std.specs.Prelude.{ℕ, List, [], ◌∷◌, Option, Bool, false, ◌<◌, ◌&&◌, ◌==◌, length, nat_lt, map}
use Rattle.std.specs.List.{Contains, list_all, slice_index_or}
use Rattle.std.specs.Ordering.{nat_cmp}
use Rattle.search.specs.declared.parts.TableRequirement.{TableRequirement}
use Rattle.search.specs.declared.parts.TableChoice.{TableChoice}
use Rattle.search.specs.Rules.{Rules}
use Rattle.search.specs.Solutions.{Pin, version_pinned}

-- Names, nodes, requirements and a name's releases are numbers from 0 on: the place of each in its list. A release is told by its place alone.
pub record TableParts : Type 0 where
  -- the name of each node
  pub nodes : List ℕ
  pub requirements : List TableRequirement
  -- for each name the places of its candidates, in the order in which they are preferred
  pub candidates : List (List ℕ)
  -- for each node, and for each place of a release of its name, the requirements that count there
  pub wants : List (List (List ℕ))
  -- the requirements of the active lines
  pub lines : List ℕ

abbrev pub requirement_at : TableParts → ℕ → TableRequirement
requirement_at t r = slice_index_or t.requirements r (record { node = 0; more = []; admits = [] })

abbrev pub name_at : List ℕ → ℕ → ℕ
name_at nodes node = slice_index_or nodes node 0

abbrev pub name_of : TableParts → ℕ → ℕ
name_of t = name_at t.nodes

-- the nodes that a requirement needs
abbrev pub required_nodes : TableRequirement → List ℕ
required_nodes r = r.node ∷ r.more

-- whether a requirement admits the release at a place; none where nothing is said of it
abbrev pub admits_at : TableParts → ℕ → ℕ → Bool
admits_at t r place = slice_index_or (requirement_at t r).admits place false

-- nothing where nothing is said of the release
abbrev pub wants_at : TableParts → ℕ → ℕ → List ℕ
wants_at t node place = slice_index_or (slice_index_or t.wants node []) place []

abbrev pub candidates_of : TableParts → ℕ → List ℕ
candidates_of t n = slice_index_or t.candidates n []

-- names are ordered as numbers
abbrev pub rules_of : TableParts → Rules ℕ ℕ ℕ ℕ
rules_of t = record {
  lines = t.lines;
  name = λ r. name_of t (requirement_at t r).node;
  nodes = λ r. required_nodes (requirement_at t r);
  on = name_of t;
  admits = admits_at t;
  wants = wants_at t;
  candidates = candidates_of t;
  compare = nat_cmp;
}

-- releases of a table are told apart by their places
abbrev pub places_eq : ℕ → ℕ → Bool
places_eq v w = v == w

-- whether each of the numbers is less than the bound
abbrev pub all_below : ℕ → List ℕ → Bool
all_below bound ns = list_all (λ n. nat_lt n bound) ns

-- whether a node is in range and on this name
abbrev pub is_on : List ℕ → ℕ → ℕ → Bool
is_on nodes name node = nat_lt node (length nodes) && (name_at nodes node == name)

-- whether a requirement's nodes are in range, and all on one name
abbrev pub requirement_in_range : List ℕ → TableRequirement → Bool
requirement_in_range nodes r = nat_lt r.node (length nodes) && list_all (is_on nodes (name_at nodes r.node)) r.more

-- whether each number has something at its place
abbrev pub in_range : TableParts → Bool
in_range t =
    all_below (length t.candidates) t.nodes
    && (list_all (requirement_in_range t.nodes) t.requirements
    && (list_all (list_all (all_below (length t.requirements))) t.wants
    && all_below (length t.requirements) t.lines))

abbrev pub pin_of : TableChoice → Pin ℕ ℕ
pin_of c = record { name = c.name; version = c.place }

-- the map that choices make: at a name, the place of the first choice on it
abbrev pub place_in : List TableChoice → ℕ → Option ℕ
place_in cs = version_pinned nat_cmp (map pin_of cs)

-- each choice is on a greater name than those before it
abbrev pub IsAscending : List TableChoice → Type 0
IsAscending [] = Unit {0}
IsAscending (c ∷ cs) = ((d : TableChoice) → Contains cs d → c.name < d.name) × IsAscending cs
