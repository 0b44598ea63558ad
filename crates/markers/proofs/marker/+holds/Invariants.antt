use Rattle.std.proofs.Common.{◌≡◌, drop}
use Rattle.std.specs.Option.{option_copied}
use Rattle.markers.specs.MarkerHolds.{all_hold, any_holds}
use Rattle.markers.specs.MarkerTree.{trees_of}
use Rattle.markers.specs.Tied.MarkerSize.{tree_size, trees_size}
use Rattle.markers.proofs.marker.+holds.Given as goal

abbrev pub invariant-all_hold-loop-member : goal.invariant-all_hold-loop-member
invariant-all_hold-loop-member l =
    all_hold (trees_of (drop l.member-index l.members)) l.environment (option_copied l.extra) ≡ all_hold (trees_of l.members) l.environment (option_copied l.extra)

abbrev pub invariant-any_holds-loop-member : goal.invariant-any_holds-loop-member
invariant-any_holds-loop-member l =
    any_holds (trees_of (drop l.member-index l.members)) l.environment (option_copied l.extra) ≡ any_holds (trees_of l.members) l.environment (option_copied l.extra)

abbrev pub decreases-Marker::holds : goal.decreases-Marker::holds
decreases-Marker::holds l = tree_size l.self.now

abbrev pub decreases-all_hold : goal.decreases-all_hold
decreases-all_hold l = trees_size (trees_of l.members.now)

abbrev pub decreases-any_holds : goal.decreases-any_holds
decreases-any_holds l = trees_size (trees_of l.members.now)
