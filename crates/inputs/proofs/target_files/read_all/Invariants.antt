use Rattle.std.proofs.Common.{◌≡◌, ◌++◌, map}
use Rattle.std.specs.List.{AllByRecursion}
use Rattle.inputs.specs.Handed.{IsAt, path_of}
use Rattle.inputs.specs.declared.input_files.InputFile.TheVariants.{Environment}
use Rattle.inputs.proofs.target_files.read_all.Given as goal

-- the paths so far and those that are left; and the bytes so far are at their paths
abbrev pub invariant-loop-name : goal.invariant-loop-name
invariant-loop-name g l =
    (map path_of l.read.items ++ l.name-iterator.rest.items ≡ l.fn.files.items)
    × AllByRecursion (λ r. IsAt (g.G.HandedFiles.handed l.handed) (Environment r.name) r.path r.bytes.items) l.read.items
