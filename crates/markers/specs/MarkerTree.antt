-- Markers as trees (PEP 508, "Environment Markers").
use Rattle.std.specs.Prelude.{List, [], ◌∷◌}
use Rattle.markers.specs.declared.marker_atom.Atom.{Atom}

-- a marker, or a part of one: an atom, members joined by `and`, or members joined by `or`. What stands in parentheses is a tree as a whole marker is
mutual
  pub data Tree : Type 0 where
    atom : Atom → Tree
    all_of : Trees → Tree
    any_of : Trees → Tree

  pub data Trees : Type 0 where
    no_trees : Trees
    tree : Tree → Trees → Trees

abbrev pub trees_of : List Tree → Trees
trees_of [] = no_trees
trees_of (t ∷ ts) = tree t (trees_of ts)
