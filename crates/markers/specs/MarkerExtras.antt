-- What extras a marker names, and that only these tell it from none (PEP 508, "Environment Markers"; PEP 685).
use Rattle.std.specs.Prelude.{◌≡◌, ℕ, Bool, false, List, [], ◌++◌, Option, Some, None}
use Rattle.std.specs.List.{list_any}
use Rattle.std.specs.Option.{option_to_list}
use Rattle.std.specs.Str.{bytes_eq}
use Rattle.markers.specs.Environment.{Texts}
use Rattle.markers.specs.MarkerHolds.{holds}
use Rattle.markers.specs.MarkerTree.{Tree, atom, all_of, any_of, Trees, no_trees, tree}
use Rattle.markers.specs.declared.marker_atom.Atom.{Atom}
use Rattle.markers.specs.declared.marker_atom.Atom.TheVariants as atoms

-- the extra that an atom names; a relation names none, and neither does a text that is no name
abbrev pub extras_of : Atom → List (List ℕ)
extras_of (atoms.Relation r) = []
extras_of (atoms.Extra equal name) = option_to_list name

-- the extras that a marker names, in their order
abbrev mutual
  pub extras_in : Tree → List (List ℕ)
  extras_in (atom a) = extras_of a
  extras_in (all_of ts) = extras_among ts
  extras_in (any_of ts) = extras_among ts

  pub extras_among : Trees → List (List ℕ)
  extras_among no_trees = []
  extras_among (tree t ts) = extras_in t ++ extras_among ts

-- whether one of the names is this extra
abbrev pub is_among : List ℕ → List (List ℕ) → Bool
is_among extra names = list_any (λ name. bytes_eq name extra) names

-- with an extra that a marker doesn't name, it holds where it holds with none
abbrev pub OtherExtrasAreAsNone : Type 0
OtherExtrasAreAsNone = (t : Tree) (environment : Texts) (extra : List ℕ)
    → is_among extra (extras_in t) ≡ false → holds t environment (Some extra) ≡ holds t environment None
