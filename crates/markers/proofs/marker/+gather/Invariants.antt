use Rattle.std.proofs.Common.{◌≡◌, ◌++◌, drop}
use Rattle.markers.specs.MarkerRelations.{relations_among}
use Rattle.markers.specs.MarkerTree.{trees_of}
use Rattle.markers.specs.Tied.MarkerSize.{tree_size, trees_size}
use Rattle.markers.proofs.marker.+gather.Given as goal

abbrev pub invariant-gather_members-loop-member : goal.invariant-gather_members-loop-member
invariant-gather_members-loop-member l = l.found ++ relations_among (trees_of (drop l.member-index l.members)) ≡ l.fn.found ++ relations_among (trees_of l.members)

abbrev pub decreases-gather : goal.decreases-gather
decreases-gather l = tree_size l.marker.now

abbrev pub decreases-gather_members : goal.decreases-gather_members
decreases-gather_members l = trees_size (trees_of l.members.now)
