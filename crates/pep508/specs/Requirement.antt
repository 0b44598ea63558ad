-- Requirements, and what a line of a requirements file asks for.
use Rattle.std.specs.Prelude.{◌≡◌, ℕ, ◌+◌, ◌-◌, ◌==◌, ◌||◌, Bool, true, false, List, [], ◌∷◌, drop, length, slice_index, is_ok, Option, Some, None, unwrap_or, Result, Ok, Err, if◌then◌else◌}
use Rattle.std.specs.List.{list_all}
use Rattle.std.specs.Str.{IsUtf8, is_utf8}
use Rattle.pep440.specs.Tied.Sets.{set_of}
use Rattle.pep440.specs.Text.{pieces}
use Rattle.pep440.specs.declared.specifier.Clause.{Clause}
use Rattle.pep440.specs.declared.fault.Fault.{Fault as SpecifierFault}
use Rattle.markers.specs.Environment.{Texts}
use Rattle.markers.specs.Faults.{cause_of, fault_of}
use Rattle.markers.specs.Marker.{Tree, holds, marker_of}
use Rattle.markers.specs.Names.{name_of}
use Rattle.markers.specs.declared.fault.Cause.{Cause}
use Rattle.markers.specs.declared.fault.Cause.TheVariants.{BadName, UrlRequirement, OptionLine, Continuation, OddCharacter, NotUtf8}
use Rattle.markers.specs.declared.fault.Fault.{Fault}
use Rattle.pep508.specs.Lines.{lines_of}
use Rattle.pep508.specs.Parts.{begins_with, content_of, ending_of, ends_with, has_odd, inside, is_marked, is_space_or_tab, trim, trim_start}
use Rattle.pep508.specs.Slices.{Slices, asking, slices_of, slices_with}

-- a name and extras in their normal form, the clauses that a version has to match, and the marker, if there is one
pub record RequirementParts : Type 0 where
  pub name : List ℕ
  pub extras : List (List ℕ)
  pub clauses : List Clause
  pub marker : Option Tree

-- what is read next, where the first was read
infixl 10 ◌>>=◌
abbrev pub ◌>>=◌ : {A B : Type 0} → Result A Cause → (A → Result B Cause) → Result B Cause
(Ok x) >>= f = f x
(Err cause) >>= f = Err cause

-- the names that pieces are, each freed of the space around it
unfoldable pub names_of : List (List ℕ) → Result (List (List ℕ)) Cause
names_of [] = Ok []
names_of (piece ∷ rest) = name_of (trim piece) >>= λ name. names_of rest >>= λ names. Ok (name ∷ names)

-- the extras within brackets: none where space stands there, else names with commas between them
abbrev pub names_within : Option (List ℕ) → Result (List (List ℕ)) Cause
names_within None = Err BadName
names_within (Some text) = if list_all is_space_or_tab text then Ok [] else names_of (pieces text)

-- the extras of their slice, which ends with the first `]` (PEP 508, "Extras")
abbrev pub extras_of : List ℕ → Result (List (List ℕ)) Cause
extras_of extras = if length extras == 0 then Ok [] else names_within (inside 91 93 extras)

-- what was read of a set of specifiers
abbrev pub caused : Result (List Clause) SpecifierFault → Result (List Clause) Cause
caused (Ok clauses) = Ok clauses
caused (Err fault) = Err (cause_of fault)

-- the set that a version slice is, with parentheses around it or not
abbrev pub set_text : List ℕ → List ℕ
set_text version = unwrap_or (inside 40 41 version) version

-- the clauses of a version slice; `@` leads a URL there
abbrev pub clauses_of : List ℕ → Result (List Clause) Cause
clauses_of version = if begins_with 64 version then Err UrlRequirement else caused (set_of (set_text version))

-- a text that reads as a set, with no space around it
pub record IsSpecifier (text : List ℕ) : Type 0 where
  pub reads : is_ok (set_of text) ≡ true
  pub first : is_space_or_tab (slice_index text 0) ≡ false
  pub last : is_space_or_tab (slice_index text (length text - 1)) ≡ false

-- a text that was read as a set
abbrev pub kept : List ℕ → Result (List Clause) SpecifierFault → Result (List ℕ) Cause
kept text (Ok clauses) = Ok text
kept text (Err fault) = Err (cause_of fault)

-- the specifiers that a text asks for: the text without space around it, where it is a set without parentheses
abbrev pub specifier_of : List ℕ → Result (List ℕ) Cause
specifier_of text = kept (trim text) (set_of (trim text))

-- a marker that was read
abbrev pub conditional : Result Tree Cause → Result (Option Tree) Cause
conditional (Ok tree) = Ok (Some tree)
conditional (Err cause) = Err cause

-- the marker of its slice: what stands behind `;`
abbrev pub condition_of : List ℕ → Result (Option Tree) Cause
condition_of marker = if begins_with 59 marker then conditional (marker_of (drop 1 marker)) else Ok None

-- a requirement, from its slices (PEP 508, "Grammar")
abbrev pub wanted_in : Slices → Result RequirementParts Cause
wanted_in s =
    name_of s.name >>= λ name. extras_of s.extras >>= λ extras. clauses_of s.version >>= λ clauses. condition_of s.marker
    >>= λ marker. Ok (record { name = name; extras = extras; clauses = clauses; marker = marker })

-- the requirement that a text is which no space leads
unfoldable pub asked_in : List ℕ → Result RequirementParts Cause
asked_in text = wanted_in (slices_with [] text [] [])

-- the requirement that a text is
abbrev pub requirement_text : List ℕ → Result RequirementParts Cause
requirement_text text = asked_in (trim_start text)

-- whether a marker that may be there holds with no extra
abbrev pub applies : Option Tree → Texts → Bool
applies None texts = true
applies (Some tree) texts = holds tree texts None

-- whether a requirement counts in an environment
abbrev pub is_active : RequirementParts → Texts → Bool
is_active wanted texts = applies wanted.marker texts

-- a requirement that is there
abbrev pub present : Result RequirementParts Cause → Result (Option RequirementParts) Cause
present (Ok wanted) = Ok (Some wanted)
present (Err cause) = Err cause

-- what the content of a line asks for: nothing where it is blank or a comment
unfoldable pub wanted_by : List ℕ → Result (Option RequirementParts) Cause
wanted_by content =
    if is_marked content || has_odd content then Err OddCharacter
    else if ends_with 92 content then Err Continuation
    else if begins_with 45 (trim_start content) then Err OptionLine
    else if length (asking content) == 0 then Ok None
    else present (asked_in (asking content))

-- the requirement of a line, or why the line is refused
unfoldable pub requirement_of : List ℕ → Result (Option RequirementParts) Cause
requirement_of line = wanted_by (content_of line)

-- a text that is a line: it is UTF-8, and not refused
pub record IsLine (line : List ℕ) : Type 0 where
  pub utf8 : IsUtf8 line
  pub reads : is_ok (requirement_of line) ≡ true

-- a line that is not refused
abbrev pub checked : List ℕ → Result (Option RequirementParts) Cause → Result (List ℕ) Cause
checked line (Ok wanted) = Ok line
checked line (Err cause) = Err cause

abbrev pub checked_line : List ℕ → Result (List ℕ) Cause
checked_line line = checked line (requirement_of line)

-- the slices of a line that is not refused
abbrev pub cut : Slices → Result (Option RequirementParts) Cause → Result Slices Cause
cut slices (Ok wanted) = Ok slices
cut slices (Err cause) = Err cause

abbrev pub cut_line : List ℕ → Result Slices Cause
cut_line line = cut (slices_of line) (requirement_of line)

-- a text reads as a line of the same name, extras, marker, comment and ending, and asks for the same but for the clauses
pub record ReadsWith (s : Slices) (wanted : RequirementParts) (clauses : List Clause) (text : List ℕ) : Type 0 where
  pub requirement : requirement_of text ≡ Ok (Some (record wanted { clauses = clauses }))
  pub name : (slices_of text).name ≡ s.name
  pub extras : (slices_of text).extras ≡ s.extras
  pub marker : (slices_of text).marker ≡ s.marker
  pub comment : (slices_of text).comment ≡ s.comment
  pub end : (slices_of text).end ≡ s.end

-- a line that may stand in the place of another: it asks for something, and ends as the other does
pub record MayStandFor (old new : List ℕ) : Type 0 where
  pub wanted : RequirementParts
  pub reads : requirement_of new ≡ Ok (Some wanted)
  pub end : ending_of new ≡ ending_of old

-- the fault of a line, or of a later one
abbrev pub fault_or : ℕ → Result (Option RequirementParts) Cause → Option Fault → Option Fault
fault_or number (Ok wanted) later = later
fault_or number (Err cause) later = Some (fault_of number cause)

-- the fault of the first line that is refused; the first of the lines has this number
unfoldable pub first_fault : ℕ → List (List ℕ) → Option Fault
first_fault number [] = None
first_fault number (line ∷ rest) = fault_or number (requirement_of line) (first_fault (number + 1) rest)

-- lines, where none of them is refused
abbrev pub unless : List (List ℕ) → Option Fault → Result (List (List ℕ)) Fault
unless lines None = Ok lines
unless lines (Some fault) = Err fault

-- the lines of a text, or the first refusal among them
abbrev pub lines_read : List ℕ → Result (List (List ℕ)) Fault
lines_read text = unless (lines_of text) (first_fault 1 (lines_of text))

-- the lines of a requirements file, or why it is refused: it isn't UTF-8, or its first refused line
abbrev pub file_of : List ℕ → Result (List (List ℕ)) Fault
file_of bytes = if is_utf8 bytes then lines_read bytes else Err (record { line = 0; cause = NotUtf8 })
