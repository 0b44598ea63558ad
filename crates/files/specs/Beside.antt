-- Files that stand beside their places, and the history that the files of a folder stand for. All of it is reqlock's own rule.
use Rattle.std.specs.Prelude.{ℕ, ◌++◌, Bool, true, false, List, [], ◌∷◌, map, Option, Some, None, Result, Ok, Err}
use Rattle.std.specs.Cmp.Lexicographic.{slice_cmp}
use Rattle.std.specs.List.{concat, flat_map, list_any}
use Rattle.std.specs.Ordering.{is_eq, nat_cmp}
use Rattle.std.specs.Str.{bytes_eq}
use Rattle.folder.specs.Held.{Held}
use Rattle.folder.specs.Repairs.{AreBeside}
use Rattle.inputs.specs.FileNames.{name_of}
use Rattle.journal.specs.Values.{State}
use Rattle.journal.specs.Changes.{HistoryParts}
use Rattle.journal.specs.Opens.{Opens}
use Rattle.inputs.specs.declared.fault.Fault.{Fault}
use Rattle.inputs.specs.declared.fault.Fault.TheVariants.{Input}
use Rattle.inputs.specs.declared.input_files.InputFile.{InputFile}
use Rattle.inputs.specs.declared.input_files.InputFile.TheVariants.{Requirements, Lock, Journal, Index, Environment, NewRequirements, OldRequirements, Pins}
use Rattle.files.specs.declared.saved_files.SavedFiles.{SavedFiles}
use Rattle.files.specs.declared.beside.Beside.{Beside}

-- a file where it is one of them
abbrev pub one_where : Bool → InputFile → List InputFile
one_where true file = file ∷ []
one_where false file = []

-- the files that stand beside, in the order in which a save renames them
abbrev pub files_of : Beside → List InputFile
files_of beside = one_where beside.requirements Requirements ++ map (λ name. Lock name) beside.locks.keys ++ one_where beside.journal Journal

-- whether a file is one of them
abbrev pub has : Beside → InputFile → Bool
has beside Requirements = beside.requirements
has beside (Lock name) = list_any (λ other. is_eq (slice_cmp nat_cmp name other)) beside.locks.keys
has beside Journal = beside.journal
has beside Index = false
has beside (Environment name) = false
has beside NewRequirements = false
has beside OldRequirements = false
has beside (Pins name) = false

-- those of some files that were taken from beside their places, in the order in which a save renames them
abbrev pub taken_from : Beside → SavedFiles → List InputFile
taken_from beside files =
    one_where beside.requirements Requirements ++ flat_map (λ lock. one_where (has beside (Lock lock.0)) (Lock lock.0)) files.locks.entries ++ one_where beside.journal Journal

-- something stands beside the place of each of these files when its turn to be renamed comes
abbrev pub FilesStandBeside : List InputFile → Held → Type 0
FilesStandBeside files held = AreBeside (map (λ file. name_of file) files) held

-- these files stand for this history
abbrev pub StandFor : SavedFiles → HistoryParts → Type 0
StandFor files history = Opens files.requirements.items files.locks.entries files.journal (Ok history)

-- whether a state has this requirements file
abbrev pub has_lines : List ℕ → State → Bool
has_lines requirements state = bytes_eq (concat state.lines) requirements

-- whether one of these states has it
abbrev pub has_requirements : List State → List ℕ → Bool
has_requirements states requirements = list_any (has_lines requirements) states

-- these files with the history that they opened as; none where a file is at fault
abbrev pub completed_by : {A B : Type 0} → Beside → Result (A × B) Fault → Result (Option (Beside × A × B)) Fault
completed_by beside (Ok opened) = Ok (Some (beside, opened.0, opened.1))
completed_by beside (Err (Input file fault)) = Ok None
completed_by beside (Err fault) = Err fault
