use Rattle.std.proofs.Common.{◌≡◌, map, take}
use Rattle.inputs.specs.PinsFiles.{given_by, without_lock}
use Rattle.calls.proofs.replacement.lent_targets.Given as goal

-- the targets so far
abbrev pub invariant-loop-target : goal.invariant-loop-target
invariant-loop-target l = map given_by l.given.items ≡ map without_lock (take l.target-index l.targets)
