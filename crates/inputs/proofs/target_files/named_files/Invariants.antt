use Rattle.std.proofs.Common.{◌≡◌, drop, map, take}
use Rattle.inputs.specs.TargetFiles.{are_named, target_file_of}
use Rattle.inputs.proofs.target_files.named_files.Given as goal

-- the targets so far are those of the values so far, and whether all have names is left to the others
abbrev pub invariant-loop-place : goal.invariant-loop-place
invariant-loop-place l = (l.files.items ≡ map target_file_of (take l.place l.values)) × (are_named (drop l.place l.values) ≡ are_named l.values)
