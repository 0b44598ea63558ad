-- The refusals that lines and locks alone give to an edit. All of it is reqlock's own rule.
use Rattle.std.specs.Prelude.{ℕ, ◌==◌, not, Bool, List, find, is_some, map, Option, Some, None, option_map, Result, Ok, Err, if◌then◌else◌}
use Rattle.std.specs.List.{list_all, list_any}
use Rattle.markers.specs.Names.{is_name, normal_of}
use Rattle.pep508.specs.Requirement.{RequirementParts}
use Rattle.pylock.specs.Packages.{EntryParts}
use Rattle.problems.specs.Solutions.{version_for}
use Rattle.states.specs.Locks.{versions_of}
use Rattle.states.specs.declared.target.Target.{Target}
use Rattle.edits.specs.Addition.{line_number, requirement_in}
use Rattle.edits.specs.LinesOnName.{count_on, is_specifier}
use Rattle.edits.specs.declared.request.Edit.{Edit}
use Rattle.edits.specs.declared.request.Edit.TheVariants.{Add, Constrain, Remove, Upgrade}
use Rattle.states.specs.declared.refusal.Refusal.{Refusal}
use Rattle.states.specs.declared.refusal.Refusal.TheVariants.{AlreadyPresent, Ambiguous, BadText, NotLocked, NotPresent}

-- of an added line, given what it requires: its name may not be that of a line that is there
abbrev pub refused_addition : List (List ℕ) → Option RequirementParts → Option Refusal
refused_addition lines None = Some BadText
refused_addition lines (Some wanted) = option_map AlreadyPresent (line_number wanted.name lines)

-- of an edit of the one line on a name, where there are so many
abbrev pub refused_count : ℕ → Option Refusal
refused_count count = if count == 0 then Some NotPresent else if count == 1 then None else Some (Ambiguous count)

-- of an edit of the one line on the name that a text is
abbrev pub refused_name : List (List ℕ) → List ℕ → Option Refusal
refused_name lines text = if is_name text then refused_count (count_on (normal_of text) lines) else Some BadText

-- of specifiers for the one line on a name
abbrev pub refused_constraint : List (List ℕ) → List ℕ → List ℕ → Option Refusal
refused_constraint lines name specifiers = if is_specifier specifiers then refused_name lines name else Some BadText

-- the first refusal that the lines give
abbrev pub refused_by_lines : List (List ℕ) → Edit → Option Refusal
refused_by_lines lines (Add text) = refused_addition lines (requirement_in text)
refused_by_lines lines (Remove name) = refused_name lines name
refused_by_lines lines (Constrain name specifiers) = refused_constraint lines name specifiers
refused_by_lines lines edit = None

-- whether a lock has the name
abbrev pub is_locked : List EntryParts → List ℕ → Bool
is_locked entries name = is_some (version_for (versions_of entries) name)

-- whether the lock of some target has the name
abbrev pub is_locked_for : List Target → List ℕ → Bool
is_locked_for targets name = list_any (λ target. is_locked target.lock.entries name) targets

-- of an upgrade of the names that texts are: all of them are names, and each is locked for some target; the first that isn't is told
abbrev pub refused_upgrade : List Target → List (List ℕ) → Option Refusal
refused_upgrade targets texts =
    if list_all is_name texts then option_map NotLocked (find (λ name. not (is_locked_for targets name)) (map normal_of texts)) else Some BadText

-- the first refusal that the locks of the targets give
abbrev pub refused_by_locks : List Target → Edit → Option Refusal
refused_by_locks targets (Upgrade names) = refused_upgrade targets names
refused_by_locks targets edit = None

-- what is expected where a refusal may apply
abbrev pub or_refused : {T : Type 0} → Option Refusal → T → Result T Refusal
or_refused (Some refusal) value = Err refusal
or_refused None value = Ok value
