use Rattle.std.proofs.Common.{◌≡◌, ◌++◌}
use Rattle.files.specs.Rewrites.{gone_among}
use Rattle.files.proofs.saved_files.SavedFiles.going.Given as goal

-- the locks that are left to be looked at go behind those so far
abbrev pub invariant-loop-name : goal.invariant-loop-name
invariant-loop-name l = l.files.items ++ gone_among l.saved l.name-iterator ≡ gone_among l.saved l.self.locks.entries
