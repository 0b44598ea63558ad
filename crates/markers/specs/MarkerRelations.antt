-- What relations a marker asks, and where they decide it (PEP 508, "Environment Markers").
use Rattle.std.specs.Prelude.{◌≡◌, ℕ, List, [], ◌∷◌, ◌++◌, Option}
use Rattle.std.specs.List.{AllByRecursion}
use Rattle.markers.specs.Environment.{Texts}
use Rattle.markers.specs.MarkerAtoms.{Relation, relation_holds}
use Rattle.markers.specs.MarkerHolds.{holds}
use Rattle.markers.specs.MarkerTree.{Tree, atom, all_of, any_of, Trees, no_trees, tree}
use Rattle.markers.specs.declared.marker_atom.Atom.{Atom}
use Rattle.markers.specs.declared.marker_atom.Atom.TheVariants as atoms

-- the relation of an atom; one about the extra has none
abbrev pub relations_of : Atom → List Relation
relations_of (atoms.Relation r) = r ∷ []
relations_of (atoms.Extra equal name) = []

-- the relations of a marker, in their order
abbrev mutual
  pub relations_in : Tree → List Relation
  relations_in (atom a) = relations_of a
  relations_in (all_of ts) = relations_among ts
  relations_in (any_of ts) = relations_among ts

  pub relations_among : Trees → List Relation
  relations_among no_trees = []
  relations_among (tree t ts) = relations_in t ++ relations_among ts

-- a relation holds in both environments or in neither
abbrev pub RelationAlike : Texts → Texts → Relation → Type 0
RelationAlike environment other r = relation_holds r environment ≡ relation_holds r other

-- where each of its relations holds in both or in neither, so does a marker, whatever extra is asked
abbrev pub RelationsDecide : Type 0
RelationsDecide = (t : Tree) (environment other : Texts) (extra : Option (List ℕ))
    → AllByRecursion (RelationAlike environment other) (relations_in t) → holds t environment extra ≡ holds t other extra
