use Rattle.std.proofs.Common.{◌≡◌, ◌++◌, map}
use Rattle.inputs.specs.declared.input_files.InputFile.TheVariants.{Lock}
use Rattle.files.proofs.beside.push_locks.Given as goal

-- the locks that are left go behind those so far
abbrev pub invariant-loop-name : goal.invariant-loop-name
invariant-loop-name l = l.files.items ++ map (λ name. Lock name) l.name-iterator ≡ l.initial.files.items ++ map (λ name. Lock name) l.names.keys
