use Rattle.std.proofs.Common.{◌≡◌, take}
use Rattle.files.specs.TargetLocks.{names_of}
use Rattle.files.proofs.standing_lock.target_names.Given as goal

-- the names so far
abbrev pub invariant-loop-target : goal.invariant-loop-target
invariant-loop-target l = l.names.items ≡ names_of (take l.target-index l.targets)
