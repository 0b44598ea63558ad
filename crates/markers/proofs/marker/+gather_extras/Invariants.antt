use Rattle.std.proofs.Common.{◌≡◌, ◌++◌, drop}
use Rattle.markers.specs.MarkerExtras.{extras_among}
use Rattle.markers.specs.MarkerTree.{trees_of}
use Rattle.markers.specs.Tied.MarkerSize.{tree_size, trees_size}
use Rattle.markers.proofs.marker.+gather_extras.Given as goal

abbrev pub invariant-gather_extras_of_members-loop-member : goal.invariant-gather_extras_of_members-loop-member
invariant-gather_extras_of_members-loop-member l = l.found ++ extras_among (trees_of (drop l.member-index l.members)) ≡ l.fn.found ++ extras_among (trees_of l.members)

abbrev pub decreases-gather_extras : goal.decreases-gather_extras
decreases-gather_extras l = tree_size l.marker.now

abbrev pub decreases-gather_extras_of_members : goal.decreases-gather_extras_of_members
decreases-gather_extras_of_members l = trees_size (trees_of l.members.now)
