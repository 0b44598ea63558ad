use Rattle.std.proofs.Common.{◌≡◌, [], drop}
use Rattle.inputs.specs.TargetFiles.{names_of, repeated}
use Rattle.inputs.proofs.target_files.refuse_twice.Given as goal

-- which name stands twice is left to the others
abbrev pub invariant-loop-place : goal.invariant-loop-place
invariant-loop-place l = repeated l.names.keys (names_of (drop l.place l.files)) ≡ repeated [] (names_of l.files)
