use Rattle.std.proofs.Common.{◌≡◌, map, take}
use Rattle.edits.specs.Tied.KeptVersions.{kept_for, kept_of}
use Rattle.edits.proofs.kept_versions.without_locks.Given as goal

abbrev pub invariant-loop-target : goal.invariant-loop-target
invariant-loop-target l = map kept_of l.all.items ≡ map (kept_for l.pool.index l.edit) (take l.target-index l.targets)
