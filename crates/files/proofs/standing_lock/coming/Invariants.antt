use Rattle.std.proofs.Common.{◌≡◌, ◌++◌, drop, map}
use Rattle.files.specs.TargetLocks.{coming}
use Rattle.files.proofs.standing_lock.coming.Given as goal

-- those that come of the targets that are left stand behind those so far
abbrev pub invariant-loop-target : goal.invariant-loop-target
invariant-loop-target l = map (λ t. t.now) l.found.items ++ coming l.before (drop l.target-index l.targets) ≡ coming l.before l.targets
