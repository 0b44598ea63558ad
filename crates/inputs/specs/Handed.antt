-- What is known of the files that a call is handed. All of it is reqlock's own rule.
use Rattle.std.specs.Prelude.{◌≡◌, ℕ, List, Option, IfSome, Ok, map}
use Rattle.std.specs.List.{AllByRecursion}
use Rattle.snapshot.specs.Packages.{Index as Packages}
use Rattle.inputs.specs.Inputs.{index_in}
use Rattle.inputs.specs.declared.input_files.InputFile.{InputFile}
use Rattle.inputs.specs.declared.input_files.InputFile.TheVariants.{Index}
use Rattle.inputs.specs.declared.named_file.NamedBytes.{NamedBytes}
use Rattle.inputs.specs.declared.named_file.NamedPath.{NamedPath}

-- the bytes of a file at a path, where they are known
abbrev pub Handed : Type 0
Handed = InputFile → List ℕ → Option (List ℕ)

-- a file at a path has these bytes, if it is known which it has
abbrev pub IsAt : Handed → InputFile → List ℕ → List ℕ → Type 0
IsAt handed file path bytes = IfSome (handed file path) (λ known. bytes ≡ known)

-- an index is what the bytes at a path are
abbrev pub IsIndexAt : Handed → List ℕ → Packages → Type 0
IsIndexAt handed path index = (bytes : List ℕ) × IsAt handed Index path bytes × (index_in bytes ≡ Ok index)

-- where bytes with a name were read
abbrev pub path_of : NamedBytes (List ℕ) → NamedPath (List ℕ)
path_of read = record { name = read.name; path = read.path }

-- the bytes were read at each of these paths in turn; the name says of which file they are
pub record AreAt (handed : Handed) (file_of : List ℕ → InputFile) (paths : List (NamedPath (List ℕ))) (read : List (NamedBytes (List ℕ))) : Type 0 where
  pub in_turn : map path_of read ≡ paths
  pub bytes : AllByRecursion (λ r. IsAt handed (file_of r.name) r.path r.bytes.items) read
