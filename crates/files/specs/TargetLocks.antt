-- Which locks come and go with their targets. All of it is reqlock's own rule.
use Rattle.std.specs.Prelude.{◌≡◌, ℕ, ◌&&◌, Bool, List, filter, map, not, IfSome, IsSomeAnd, Option}
use Rattle.std.specs.List.{Contains, list_any}
use Rattle.std.specs.Str.{bytes_eq}
use Rattle.changes.specs.Changes.{ChangeParts}
use Rattle.inputs.specs.declared.input_files.InputFile.{InputFile}
use Rattle.inputs.specs.declared.input_files.InputFile.TheVariants.{Lock}
use Rattle.journal.specs.Changes.{HistoryParts}
use Rattle.journal.specs.Past.{present}
use Rattle.journal.specs.Values.{Target}

-- the names of targets
abbrev pub names_of : List Target → List (List ℕ)
names_of targets = map (λ t. t.name) targets

-- whether one of these targets has a name
abbrev pub has_target : List Target → List ℕ → Bool
has_target targets name = list_any (λ t. bytes_eq t.name name) targets

-- whether a change tells of the target of a name, and whether one of these does
abbrev pub tells_of : List ℕ → ChangeParts → Bool
tells_of name change = list_any (λ t. bytes_eq t.name name) change.targets

abbrev pub is_told_of : List ChangeParts → List ℕ → Bool
is_told_of changes name = list_any (tells_of name) changes

-- whether the target of a name went: none of these has the name, and a change tells of it
abbrev pub has_gone : List Target → List ChangeParts → List ℕ → Bool
has_gone targets changes name = not (has_target targets name) && is_told_of changes name

-- the locks of those of these names whose targets went
abbrev pub locks_gone : List Target → List ChangeParts → List (List ℕ) → List InputFile
locks_gone targets changes names = map (λ name. Lock name) (filter (has_gone targets changes) names)

-- all of these files are locks whose targets went
abbrev pub AreGone : HistoryParts → List InputFile → Type 0
AreGone history files = IsSomeAnd (present history.past) (λ state. (names : List (List ℕ)) × (files ≡ locks_gone state.targets history.changes names))

-- these are the names of the targets of the present state
abbrev pub AreNamesNow : HistoryParts → List (List ℕ) → Type 0
AreNamesNow history names = IsSomeAnd (present history.past) (λ state. names ≡ names_of state.targets)

-- whether a name is one of these
abbrev pub is_among : List (List ℕ) → List ℕ → Bool
is_among names name = list_any (λ other. bytes_eq other name) names

-- whether a target comes: none of the names that were there before is its own
abbrev pub does_come : List (List ℕ) → Target → Bool
does_come before target = not (is_among before target.name)

-- the targets that come
abbrev pub coming : List (List ℕ) → List Target → List Target
coming before targets = filter (does_come before) targets

-- a name is that of a target that comes
abbrev pub IsOfComing : List (List ℕ) → HistoryParts → Option (List ℕ) → Type 0
IsOfComing before history name = IfSome name (λ name. IsSomeAnd (present history.past) (λ state. Contains (names_of (coming before state.targets)) name))
