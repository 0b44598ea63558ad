-- The names of files, and what the values of `--env` and `--pins` say. All of it is reqlock's own rule, but the names of locks (PEP 751, "File Name").
use Rattle.std.specs.Prelude.{ℕ, ◌==◌, List, [], ◌∷◌, ◌++◌, codes, length, if◌then◌else◌}
use Rattle.std.specs.List.{after_first, before_first, position_or_len}
use Rattle.states.specs.TargetNames.{file_name}
use Rattle.inputs.specs.declared.input_files.InputFile.{InputFile}
use Rattle.inputs.specs.declared.input_files.InputFile.TheVariants.{Requirements, Lock, Journal, Index, Environment, NewRequirements, OldRequirements, Pins}

-- how a file of a target is named: by a word and the target's name; the empty name is left out with its space
abbrev pub named : List ℕ → List ℕ → List ℕ
named word [] = word
named word name = word ++ 32 ∷ name

-- how a file is named
abbrev pub name_of : InputFile → List ℕ
name_of Requirements = codes "requirements.txt"
name_of (Lock name) = file_name name
name_of Journal = codes "reqlock.journal"
name_of Index = codes "index"
name_of (Environment name) = named (codes "environment") name
name_of NewRequirements = codes "new requirements"
name_of OldRequirements = codes "old requirements"
name_of (Pins name) = named (codes "pins") name

-- the path of a file of a folder
abbrev pub path_of : List ℕ → InputFile → List ℕ
path_of dir file = dir ++ (codes "/" ++ name_of file)

-- the name and the path in a value of `--env` or `--pins`: the first `=` divides them, and without one the name is empty
abbrev pub parts_of : List ℕ → List ℕ × List ℕ
parts_of value =
    if position_or_len (λ b. b == 61) value == length value then ([], value)
    else (before_first (λ b. b == 61) value, after_first (λ b. b == 61) value)
