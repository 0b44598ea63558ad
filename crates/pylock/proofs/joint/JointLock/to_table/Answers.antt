use Rattle.pylock.proofs.PackageFacts.{all_pass}
use Rattle.pylock.proofs.joint.JointLock.to_table.Goals as goal

pub some_array-requires : goal.some_array-requires
some_array-requires c = all_pass c.as_slice.result.now

pub array_value-requires : goal.array_value-requires
array_value-requires c = all_pass c.as_slice-2.result.now
