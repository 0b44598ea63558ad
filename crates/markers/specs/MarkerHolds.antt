-- Whether a marker holds (PEP 508, "Environment Markers").
use Rattle.std.specs.Prelude.{ℕ, ◌&&◌, ◌||◌, not, Bool, true, false, List, Option, if◌then◌else◌}
use Rattle.markers.specs.Environment.{Texts}
use Rattle.markers.specs.MarkerAtoms.{is_asked, relation_holds}
use Rattle.markers.specs.MarkerTree.{Tree, atom, all_of, any_of, Trees, no_trees, tree}
use Rattle.markers.specs.declared.marker_atom.Atom.{Atom}
use Rattle.markers.specs.declared.marker_atom.Atom.TheVariants.{Relation, Extra}

-- whether an atom holds in an environment, with an extra or none
abbrev pub atom_holds : Atom → Texts → Option (List ℕ) → Bool
atom_holds (Relation r) texts extra = relation_holds r texts
atom_holds (Extra equal name) texts extra = if equal then is_asked name extra else not (is_asked name extra)

-- whether a marker holds in an environment, with an extra or none
abbrev mutual
  pub holds : Tree → Texts → Option (List ℕ) → Bool
  holds (atom a) texts extra = atom_holds a texts extra
  holds (all_of ts) texts extra = all_hold ts texts extra
  holds (any_of ts) texts extra = any_holds ts texts extra

  pub all_hold : Trees → Texts → Option (List ℕ) → Bool
  all_hold no_trees texts extra = true
  all_hold (tree t ts) texts extra = holds t texts extra && all_hold ts texts extra

  pub any_holds : Trees → Texts → Option (List ℕ) → Bool
  any_holds no_trees texts extra = false
  any_holds (tree t ts) texts extra = holds t texts extra || any_holds ts texts extra
