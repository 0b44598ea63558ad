use Rattle.std.proofs.Common.{◌≡◌, ◌++◌}
use Rattle.std.specs.List.{flat_map}
use Rattle.inputs.specs.declared.input_files.InputFile.TheVariants.{Lock, Requirements}
use Rattle.files.specs.Beside.{has, one_where}
use Rattle.files.proofs.saved_files.SavedFiles.taken_from.Given as goal

-- those that are taken of the locks that are left stand behind those so far
abbrev pub invariant-loop-name : goal.invariant-loop-name
invariant-loop-name l =
    l.files.items ++ flat_map (λ lock. one_where (has l.beside (Lock lock.0)) (Lock lock.0)) l.name-iterator
    ≡ one_where l.beside.requirements Requirements ++ flat_map (λ lock. one_where (has l.beside (Lock lock.0)) (Lock lock.0)) l.self.locks.entries
