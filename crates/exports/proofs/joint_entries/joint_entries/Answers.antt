use Rattle.std.specs.List.{flat_map}
use Rattle.exports.specs.Tied.JointPackages.{entries_in}
use Rattle.exports.proofs.JointEntries.{moved-once}
use Rattle.exports.proofs.joint_entries.joint_entries.Goals as goal

pub returns-clause-members : goal.returns-clause-members
returns-clause-members c =
    moved-once (flat_map entries_in c.args.covers.now) c.in_ok-all.all.items c.in_ok-once.once c.in_ok-all.ensures (rw c.as_slice.ensures.value at c.in_ok-once.ensures.members)
