-- Each member of a marker is smaller than the marker.
-- Tied to `Tree` by the measure of `Marker::holds` and of a clone; need not be read.
use Rattle.std.specs.Prelude.{◌+◌, ◌≤◌, max, List, [], ◌∷◌}
use Rattle.std.proofs.Common.{arith}
use denote.Param.Weighed.{most}
use Rattle.markers.specs.MarkerTree.{Tree, trees_of}
use Rattle.markers.specs.Tied.MarkerSize.{tree_size, trees_size}
use Rattle.markers.specs.Tied.MarkerView.{tree_of_node}
use Rattle.markers.specs.declared.marker.Node.{Node}
use Rattle.markers.specs.declared.marker.Node.TheVariants as nodes
use Rattle.markers.specs.declared.marker.Marker.TheDeep.{deep-Node}

most_le-trees_size : (ts : List Tree) → most (λ t. tree_size t + 1) ts ≤ trees_size (trees_of ts) + 1
most_le-trees_size [] = omega arith
most_le-trees_size (t ∷ ts) = omega (arith, most_le-trees_size ts)

pub depth_le-tree_size : (n : Node) → max (deep-Node n) 0 ≤ tree_size (tree_of_node n)
depth_le-tree_size (nodes.Atom a) = omega arith
depth_le-tree_size (nodes.All members) = omega (arith, most_le-trees_size members.items)
depth_le-tree_size (nodes.Any members) = omega (arith, most_le-trees_size members.items)
