use Rattle.std.proofs.Common.{take}
use Rattle.exports.specs.Tied.JointPackages.{AreMarkersWith}
use Rattle.exports.proofs.joint_marker.markers_with.Given as goal

abbrev pub invariant-loop-cover : goal.invariant-loop-cover
invariant-loop-cover l = AreMarkersWith (take l.cover-index l.covers) l.entry l.texts.items
