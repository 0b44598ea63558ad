use Rattle.std.proofs.Common.{◌≡◌, ◌++◌}
use Rattle.files.specs.TargetLocks.{locks_gone}
use Rattle.files.proofs.going_locks.locks_gone.Given as goal

-- the locks that go of the names that are left stand behind those so far
abbrev pub invariant-loop-name : goal.invariant-loop-name
invariant-loop-name l = l.files.items ++ locks_gone l.targets l.changes l.name-iterator.rest.items ≡ locks_gone l.targets l.changes l.fn.names
