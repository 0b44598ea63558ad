-- The size of a tree, by which recursions over it end.
-- Tied to `Tree` by the model of `Marker`, whose size it is; need not be read.
use Rattle.std.specs.Prelude.{ℕ, suc, ◌+◌}
use Rattle.markers.specs.MarkerTree.{Tree, atom, all_of, any_of, Trees, no_trees, tree}

-- how many atoms and joins a tree has, and as many again for the members
abbrev mutual
  pub tree_size : Tree → ℕ
  tree_size (atom a) = 1
  tree_size (all_of ts) = suc (trees_size ts)
  tree_size (any_of ts) = suc (trees_size ts)

  pub trees_size : Trees → ℕ
  trees_size no_trees = 0
  trees_size (tree t ts) = suc (tree_size t + trees_size ts)
