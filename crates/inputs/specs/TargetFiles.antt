-- The targets that the values of `--env` name, and what their files make. All of it is reqlock's own rule.
use Rattle.std.specs.Prelude.{ℕ, Bool, List, [], ◌∷◌, find, map, Option, Some, None, Result, Ok, Err, if◌then◌else◌}
use Rattle.std.specs.BTreeSet.{insert_key}
use Rattle.std.specs.Cmp.Lexicographic.{slice_cmp}
use Rattle.std.specs.List.{list_all, list_any}
use Rattle.std.specs.Option.{option_map_or}
use Rattle.std.specs.Ordering.{is_eq, nat_cmp}
use Rattle.std.specs.Str.{bytes_eq}
use Rattle.markers.specs.Environment.{Texts}
use Rattle.states.specs.TargetNames.{is_target_name}
use Rattle.states.specs.Targets.{targets_of}
use Rattle.states.specs.declared.refusal.Refusal.{Refusal}
use Rattle.states.specs.declared.refusal.Refusal.TheVariants.{BadTarget, DuplicateTarget}
use Rattle.inputs.specs.Faults.{of_file, refused}
use Rattle.inputs.specs.FileNames.{parts_of}
use Rattle.inputs.specs.Inputs.{environment_in}
use Rattle.inputs.specs.declared.fault.Fault.{Fault}
use Rattle.inputs.specs.declared.input_files.InputFile.TheVariants.{Environment}
use Rattle.inputs.specs.declared.named_file.NamedBytes.{NamedBytes}
use Rattle.inputs.specs.declared.named_file.NamedPath.{NamedPath}

-- the name of a target in a value, and the path of its file
abbrev pub name_in : List ℕ → List ℕ
name_in value = (parts_of value).0

abbrev pub target_file_of : List ℕ → NamedPath (List ℕ)
target_file_of value = record { name = name_in value; path = (parts_of value).1 }

-- the first name that stands before it too; those before it are kept in order
abbrev pub repeated : List (List ℕ) → List (List ℕ) → Option (List ℕ)
repeated before [] = None
repeated before (name ∷ names) =
    if list_any (λ other. is_eq (slice_cmp nat_cmp name other)) before then Some name
    else repeated (insert_key (slice_cmp nat_cmp) before name) names

-- these targets, unless a name is told to stand twice
abbrev pub unless_repeated : List (NamedPath (List ℕ)) → Option (List ℕ) → Result (List (NamedPath (List ℕ))) Refusal
unless_repeated files None = Ok files
unless_repeated files (Some name) = Err (DuplicateTarget name)

-- the names of targets
abbrev pub names_of : List (NamedPath (List ℕ)) → List (List ℕ)
names_of files = map (λ file. file.name) files

-- whether each value has the name of a target
abbrev pub are_named : List (List ℕ) → Bool
are_named values = list_all (λ value. is_target_name (name_in value)) values

-- the targets and paths of values, each in its order. A bad name is told before the first one that stands twice
abbrev pub target_files_of : List (List ℕ) → Result (List (NamedPath (List ℕ))) Refusal
target_files_of values =
    let files = map target_file_of values in
    if are_named values then unless_repeated files (repeated [] (names_of files)) else Err BadTarget

-- a target has this name
abbrev pub has_name : List ℕ → NamedPath (List ℕ) → Bool
has_name name target = bytes_eq target.name name

-- the path of the environment of the target of a name; the empty one where no target has it
abbrev pub path_named : List ℕ → List (NamedPath (List ℕ)) → List ℕ
path_named name targets = option_map_or (λ target. target.path) (find (has_name name) targets) []

-- an environment with a name
abbrev pub with_name : List ℕ → Result Texts Fault → Result (List ℕ × Texts) Fault
with_name name (Ok texts) = Ok (name, texts)
with_name name (Err fault) = Err fault

-- the environment that bytes are, with the name of their target, or its fault as that of the target
abbrev pub named_environment : NamedBytes (List ℕ) → Result (List ℕ × Texts) Fault
named_environment target = with_name target.name (of_file (Environment target.name) (environment_in target.bytes.items))

-- one in front of others, or the first fault
abbrev pub in_front : {A : Type 0} → Result A Fault → Result (List A) Fault → Result (List A) Fault
in_front (Ok one) (Ok others) = Ok (one ∷ others)
in_front (Ok one) (Err fault) = Err fault
in_front (Err fault) others = Err fault

-- the environments that bytes are, with their names; the first that are none are told
abbrev pub environments_in : List (NamedBytes (List ℕ)) → Result (List (List ℕ × Texts)) Fault
environments_in [] = Ok []
environments_in (target ∷ targets) = in_front (named_environment target) (environments_in targets)

-- the targets that named environments make, or a fault
abbrev pub targets_with : Result (List (List ℕ × Texts)) Fault → Result (List (List ℕ × Texts)) Fault
targets_with (Ok given) = refused (targets_of given)
targets_with (Err fault) = Err fault

-- the targets with the environments that bytes are
abbrev pub targets_in : List (NamedBytes (List ℕ)) → Result (List (List ℕ × Texts)) Fault
targets_in read = targets_with (environments_in read)
