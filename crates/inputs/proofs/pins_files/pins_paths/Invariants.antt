use Rattle.std.proofs.Common.{◌≡◌, map, take}
use Rattle.inputs.specs.TargetFiles.{target_file_of}
use Rattle.inputs.proofs.pins_files.pins_paths.Given as goal

abbrev pub invariant-loop-value : goal.invariant-loop-value
invariant-loop-value l = l.paths.items ≡ map target_file_of (take l.value-index l.values)
