-- The lines of a journal (reqlock's own format).
use Rattle.std.specs.Prelude.{◌≡◌, ℕ, ◌+◌, ◌==◌, not, Bool, true, false, nat_le, List, [], ◌∷◌, codes, drop, length, map, take, position, Option, Some, None, is_some, option_map, Result, Ok, Err, if◌then◌else◌}
use Rattle.std.specs.List.{list_any}
use Rattle.std.specs.Result.{result_ok}
use Rattle.std.specs.Str.{bytes_eq}
use Rattle.changes.specs.Changes.{ChangeParts, IsMinimal}
use Rattle.changes.specs.declared.change.parts.DigestChange.{DigestChange}
use Rattle.changes.specs.declared.change.parts.EntryChange.{EntryChange}
use Rattle.changes.specs.declared.change.parts.Splice.{Splice}
use Rattle.changes.specs.declared.change.parts.TargetChange.{TargetChange}
use Rattle.lists.specs.Rising.{rises}
use Rattle.states.specs.Targets.{target_name_of}
use Rattle.markers.specs.Environment.{Texts, all_variables, texts_in}
use Rattle.markers.specs.Variables.{variable_name}
use Rattle.markers.specs.declared.fault.Cause.{Cause}
use Rattle.serde_json.specs.Data.{Data}
use Rattle.serde_json.specs.Find.{get}
use Rattle.pylock.specs.declared.flaw.Flaw.{Flaw}
use Rattle.pylock.specs.declared.flaw.Flaw.TheVariants.{OtherForm}
use Rattle.journal_format.specs.declared.header.Header.{Header}
use Rattle.journal_format.specs.declared.header.HeaderTarget.{HeaderTarget}
use Rattle.journal_format.specs.declared.header.JournalVersion.{JournalVersion}
use Rattle.journal_format.specs.declared.header.JournalVersion.TheVariants.{One, Three, Two}
use Rattle.pylock.specs.Flaws.{◌>>=◌, found}
use Rattle.journal_format.specs.Forms.{check, at, json_of, list_of, number_of, only_keys, or_null, pair_of, quadruple_of, text_of, triple_of}
use Rattle.journal_format.specs.Entries.{digest_in, entry_in, name_in}

-- ---- names of targets

-- the name of a target
unfoldable pub target_name_in : Data → Result (List ℕ) Flaw
target_name_in d = do
  text ← text_of d
  found (result_ok (target_name_of text))

-- ---- environments

-- the names of an environment's variables
abbrev pub variable_names : List (List ℕ)
variable_names = map variable_name all_variables

-- texts that were read
abbrev pub texts_read : Result Texts Cause → Result Texts Flaw
texts_read (Ok texts) = Ok texts
texts_read (Err cause) = Err OtherForm

-- an object with exactly the eleven variables of an environment
unfoldable pub environment_in : Data → Result Texts Flaw
environment_in d = do
  _ ← only_keys variable_names d
  texts_read (texts_in d all_variables)

-- ---- steps

-- `[place, [old lines], [new lines]]`
unfoldable pub splice_in : Data → Result Splice Flaw
splice_in d = do
  parts ← triple_of d
  place ← number_of parts.0
  old ← list_of text_of parts.1
  new ← list_of text_of parts.2
  Ok (record { place = place; old = old; new = new })

-- the target of an entry, and its name, its old and its new form: `[target, name, old, new]`; in version 1 `[name, old, new]`, of the
-- target whose name is empty
unfoldable pub targeted : JournalVersion → Data → Result (List ℕ × Data × Data × Data) Flaw
targeted One d = do
  parts ← triple_of d
  Ok ([], parts.0, parts.1, parts.2)
targeted version d = do
  parts ← quadruple_of d
  target ← target_name_in parts.0
  Ok (target, parts.1, parts.2, parts.3)

-- a target of the header has this name
abbrev pub has_target : Header → List ℕ → Bool
has_target header name = list_any (λ t. bytes_eq t.name name) header.targets

-- an entry may be of this target: one that the header has. In version 3 it names the present targets alone, and the target of an entry is
-- tested where its step is applied
abbrev pub may_name : JournalVersion → Header → List ℕ → Bool
may_name Three header name = true
may_name version header name = has_target header name

-- an entry on a target that it may be of, null where it isn't there
unfoldable pub entry_change_in : Header → Data → Result EntryChange Flaw
entry_change_in header d = do
  parts ← targeted header.version d
  _ ← check (may_name header.version header parts.0)
  name ← name_in parts.1
  old ← or_null (entry_in name) parts.2
  new ← or_null (entry_in name) parts.3
  Ok (record { target = parts.0; name = name; old = old; new = new })

-- `[old, new]`
unfoldable pub digests_in : Data → Result DigestChange Flaw
digests_in d = do
  parts ← pair_of d
  old ← digest_in parts.0
  new ← digest_in parts.1
  Ok (record { old = old; new = new })

-- `[name, old, new]`: the environments of a target that comes, goes or gets another one, null where there is none
unfoldable pub target_change_in : Data → Result TargetChange Flaw
target_change_in d = do
  parts ← triple_of d
  name ← target_name_in parts.0
  old ← or_null environment_in parts.1
  new ← or_null environment_in parts.2
  Ok (record { name = name; old = old; new = new })

-- whether a step tells of targets: in version 3, where it has their key
abbrev pub tells_targets : JournalVersion → Data → Bool
tells_targets Three d = is_some (get (codes "targets") d)
tells_targets version d = false

-- the keys of a step
abbrev pub step_keys : Bool → List (List ℕ)
step_keys false = codes "entries" ∷ codes "lines" ∷ codes "snapshot" ∷ []
step_keys true = codes "entries" ∷ codes "lines" ∷ codes "snapshot" ∷ codes "targets" ∷ []

-- the targets of a step; where their key stands, there is one at least
unfoldable pub target_changes_in : Bool → Data → Result (List TargetChange) Flaw
target_changes_in false d = Ok []
target_changes_in true d = do
  changes ← at (codes "targets") (list_of target_change_in) d
  _ ← check (not (length changes == 0))
  Ok changes

-- the parts of a change, in the form of the header's version
unfoldable pub step_in : Header → Data → Result ChangeParts Flaw
step_in header d = do
  _ ← only_keys (step_keys (tells_targets header.version d)) d
  entries ← at (codes "entries") (list_of (entry_change_in header)) d
  splices ← at (codes "lines") (list_of splice_in) d
  digests ← at (codes "snapshot") (or_null digests_in) d
  targets ← target_changes_in (tells_targets header.version d) d
  Ok (record { splices = splices; targets = targets; entries = entries; digests = digests })

-- the line of a step behind this header, without its LF
unfoldable pub step_of_line : Header → List ℕ → Result ChangeParts Flaw
step_of_line header line = do
  d ← json_of line
  step_in header d

-- a line is a step behind this header: a minimal change
pub record IsStepLine (header : Header) (line : List ℕ) (change : ChangeParts) : Type 0 where
  pub reads : step_of_line header line ≡ Ok change
  pub minimal : IsMinimal change

-- ---- the header

-- the versions, by their numbers
abbrev pub journal_version : ℕ → Option JournalVersion
journal_version n = if n == 1 then Some One else if n == 2 then Some Two else if n == 3 then Some Three else None

-- the keys of a header
abbrev pub header_keys : JournalVersion → List (List ℕ)
header_keys One = codes "cursor" ∷ codes "environment" ∷ codes "journal" ∷ codes "lock" ∷ codes "requirements" ∷ codes "steps" ∷ []
header_keys version = codes "cursor" ∷ codes "journal" ∷ codes "requirements" ∷ codes "steps" ∷ codes "targets" ∷ []

-- the keys of a target
abbrev pub target_keys : List (List ℕ)
target_keys = codes "environment" ∷ codes "lock" ∷ codes "name" ∷ []

-- a target of a header
unfoldable pub target_in : Data → Result HeaderTarget Flaw
target_in d = do
  _ ← only_keys target_keys d
  environment ← at (codes "environment") environment_in d
  lock ← at (codes "lock") digest_in d
  name ← at (codes "name") target_name_in d
  Ok (record { name = name; environment = environment; lock = lock })

-- there is a target at least, and their names rise by their bytes
abbrev pub are_targets : List HeaderTarget → Bool
are_targets [] = false
are_targets (target ∷ targets) = rises (map (λ t. t.name) (target ∷ targets))

-- the targets of a header; in version 1 its own environment and lock are those of the one target, whose name is empty
unfoldable pub targets_in : JournalVersion → Data → Result (List HeaderTarget) Flaw
targets_in One d = do
  environment ← at (codes "environment") environment_in d
  lock ← at (codes "lock") digest_in d
  Ok (record { name = []; environment = environment; lock = lock } ∷ [])
targets_in version d = do
  targets ← at (codes "targets") (list_of target_in) d
  _ ← check (are_targets targets)
  Ok targets

-- a header, in the form of its version, whose cursor is at most the number of steps
unfoldable pub header_in : Data → Result Header Flaw
header_in d = do
  number ← at (codes "journal") number_of d
  version ← found (journal_version number)
  _ ← only_keys (header_keys version) d
  targets ← targets_in version d
  cursor ← at (codes "cursor") number_of d
  requirements ← at (codes "requirements") digest_in d
  steps ← at (codes "steps") number_of d
  _ ← check (nat_le cursor steps)
  Ok (record { version = version; cursor = cursor; requirements = requirements; steps = steps; targets = targets })

-- the line of a header, without its LF
unfoldable pub header_of_line : List ℕ → Result Header Flaw
header_of_line line = do
  d ← json_of line
  header_in d

-- ---- lines

-- the bytes before the first LF, and those behind it
abbrev pub cut_line : List ℕ → Option (List ℕ × List ℕ)
cut_line bytes = option_map (λ i. (take i bytes, drop (i + 1) bytes)) (position (λ b. b == 10) bytes)
