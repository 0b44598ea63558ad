use Rattle.std.proofs.Common.{◌≡◌, take}
use Rattle.std.specs.List.{flat_map}
use Rattle.exports.specs.Tied.JointPackages.{entries_in}
use Rattle.exports.proofs.joint_entries.all_entries.Given as goal

abbrev pub invariant-loop-cover : goal.invariant-loop-cover
invariant-loop-cover l = l.all.items ≡ flat_map entries_in (take l.cover-index l.covers)
