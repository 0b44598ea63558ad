use Rattle.std.proofs.Common.{◌≡◌, ◌++◌}
use Rattle.files.specs.Rewrites.{lock_rewrites}
use Rattle.files.proofs.saved_files.SavedFiles.push_locks.Given as goal

-- the locks that are left to be looked at go behind those so far
abbrev pub invariant-loop-name : goal.invariant-loop-name
invariant-loop-name l = l.files.items ++ lock_rewrites l.self l.are_known l.name-iterator ≡ l.initial.files.items ++ lock_rewrites l.self l.are_known l.locks.entries
