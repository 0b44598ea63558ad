use Rattle.exports.specs.Tied.JointPackages.{Refers}
use Rattle.exports.proofs.joint_packages.refer_to.Given as goal

abbrev pub invariant-loop-other : goal.invariant-loop-other
invariant-loop-other l = Refers l.name l.initial.needs.items l.needs.items
