use Rattle.std.proofs.Common.{take}
use Rattle.exports.specs.Tied.JointPackages.{AreOn}
use Rattle.exports.proofs.joint_packages.needs_of.Given as goal

abbrev pub invariant-loop-name : goal.invariant-loop-name
invariant-loop-name l = AreOn (take l.name-index l.names) l.needs.items
