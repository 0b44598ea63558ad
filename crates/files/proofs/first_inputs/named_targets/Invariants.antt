use Rattle.std.proofs.Common.{◌≡◌, map, take}
use Rattle.inputs.specs.PinsFiles.{given_by}
use Rattle.files.proofs.first_inputs.named_targets.Given as goal

-- the targets so far
abbrev pub invariant-loop-name : goal.invariant-loop-name
invariant-loop-name l = map given_by l.named.items ≡ take l.name-index l.targets
