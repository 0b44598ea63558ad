-- The tree that a marker's node stands for.
-- Tied to `Tree` by the model of `Marker`; need not be read.
use Rattle.markers.specs.MarkerTree.{Tree, atom, all_of, any_of, trees_of}
use Rattle.markers.specs.declared.marker.Node.{Node}
use Rattle.markers.specs.declared.marker.Node.TheVariants as nodes

abbrev pub tree_of_node : Node → Tree
tree_of_node (nodes.Atom a) = atom a
tree_of_node (nodes.All members) = all_of (trees_of members.items)
tree_of_node (nodes.Any members) = any_of (trees_of members.items)
