use Rattle.std.proofs.Common.{◌≡◌, take}
use Rattle.markers.specs.MarkerTree.{trees_of}
use Rattle.markers.specs.Tied.MarkerSize.{tree_size, trees_size}
use Rattle.markers.proofs.marker.+copy.Given as goal

abbrev pub invariant-copy_members-loop-member : goal.invariant-copy_members-loop-member
invariant-copy_members-loop-member l = l.copies.items ≡ take l.member-index l.member-items

abbrev pub decreases-copy : goal.decreases-copy
decreases-copy l = tree_size l.marker.now

abbrev pub decreases-copy_members : goal.decreases-copy_members
decreases-copy_members l = trees_size (trees_of l.members.now.items)
