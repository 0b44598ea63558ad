use Rattle.std.proofs.Common.{take}
use Rattle.exports.specs.Tied.JointPackages.{AllHave}
use Rattle.exports.proofs.joint_marker.do_all_have.Given as goal

abbrev pub invariant-loop-cover : goal.invariant-loop-cover
invariant-loop-cover l = AllHave (take l.cover-index l.covers) l.entry
