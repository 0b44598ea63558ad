-- What a call that saves leaves in its folder. All of it is reqlock's own rule.
use Rattle.std.specs.Prelude.{◌≡◌, ◌⊎◌, ℕ, Bool, true, false, List, [], Option, Ok}
use Rattle.command_line.specs.declared.invocation.AskedEdit.{AskedEdit}
use Rattle.command_line.specs.declared.invocation.Beginning.{Beginning}
use Rattle.commands.specs.Runs.{SomeDoneTo}
use Rattle.commands.specs.declared.batch_end.BatchEnd.{BatchEnd}
use Rattle.commands.specs.declared.batch_end.BatchEnd.TheVariants.{Save, Leave, Refuse}
use Rattle.commands.specs.declared.batch.StreamFault.TheVariants as streams
use Rattle.calls.specs.AskedEdits.{IsHistoryFor, IsMadeOf}
use Rattle.calls.specs.Pools.{IsPoolFor}
use Rattle.edits.specs.declared.first_targets.FirstTargets.{FirstTargets}
use Rattle.edits.specs.declared.request.Edit.{Edit}
use Rattle.files.specs.Beside.{StandFor}
use Rattle.files.specs.FirstTargets.{AreTargetsOf}
use Rattle.files.specs.Places.{FileBytes, bytes_read}
use Rattle.files.specs.Saving.{IsSavedOver, IsSaving}
use Rattle.files.specs.declared.saved_files.SavedFiles.{SavedFiles}
use Rattle.folder.specs.Calls.{Ran}
use Rattle.folder.specs.Held.{Held}
use Rattle.inputs.specs.Handed.{Handed, IsIndexAt}
use Rattle.inputs.specs.Inputs.{requirements_in}
use Rattle.inputs.specs.declared.input_files.InputFile.{InputFile}
use Rattle.inputs.specs.declared.named_file.NamedPath.{NamedPath}
use Rattle.journal.specs.Changes.{HistoryParts}
use Rattle.journal.specs.Commands.{Asked, Editing}
use Rattle.journal.specs.Steps.{BeginsWith}
use Rattle.journal.specs.Values.{Pool, ReqFile, Snapshot}
use Rattle.journal.specs.declared.commands.Reply.{Reply}
use Rattle.journal.specs.declared.commands.Reply.TheVariants.{Done}
use Rattle.stops.specs.declared.stop.Stop.{Stop}
use Rattle.stops.specs.declared.stop.Stop.TheVariants as stops
use Rattle.saves.specs.Applied.{GoesOn}
use Rattle.saves.specs.Forgets.{IsShortened}

-- ---- what is done: from the history of the files that are read, it leads to that one, with this answer

-- `undo` and `redo`
abbrev pub StepIsDone : Asked → SavedFiles → HistoryParts → Reply → Type 0
StepIsDone asked files after reply = (before : HistoryParts) × StandFor files before × GoesOn false before.past asked after.past reply

-- an edit: the one that is asked for, with what was handed in
abbrev pub EditIsDone : Handed → AskedEdit → List ℕ → List (NamedPath (List ℕ)) → Bool → Bool → SavedFiles → HistoryParts → Reply → Type 0
EditIsDone handed asked index targets keeps_locked only_if_needed files after reply =
    (before : HistoryParts) × IsHistoryFor handed asked files before
    × ((edit : Edit) × (pool : Pool) × IsPoolFor handed index keeps_locked pool × IsMadeOf handed asked targets files before edit
    × GoesOn only_if_needed before.past (Editing edit pool) after.past reply)

-- `forget`
abbrev pub ForgetIsDone : Beginning → SavedFiles → HistoryParts → Reply → Type 0
ForgetIsDone beginning files after reply = (before : HistoryParts) × StandFor files before × IsShortened beginning before after reply

-- `batch`: commands and their replies, and whether one of these is `ok`
abbrev pub BatchIsDone : Handed → List ℕ → Bool → Bool → SavedFiles → HistoryParts → BatchEnd → Type 0
BatchIsDone handed index is_all_or_none keeps_locked files after end =
    (before : HistoryParts) × StandFor files before × ((pool : Pool) × IsPoolFor handed index keeps_locked pool × SomeDoneTo is_all_or_none end pool before after)

-- `init`: the lines of the requirements file are locked over the index at a path for the targets at these paths, with what is handed in for them
abbrev pub InitIsDone : Handed → List ℕ → List (NamedPath (List ℕ)) → List (NamedPath (List ℕ)) → SavedFiles → HistoryParts → Reply → Type 0
InitIsDone handed index targets pins files after reply =
    (lines : ReqFile) × (first : FirstTargets) × (over : Snapshot) × (requirements_in files.requirements.items ≡ Ok lines) × IsIndexAt handed index over
    × AreTargetsOf handed targets pins first × BeginsWith lines first.targets first.pins over after.past × (after.changes ≡ []) × (reply ≡ Done after.past.cursor)

-- something is to be saved at the end of a batch
abbrev pub is_save : BatchEnd → Bool
is_save Save = true
is_save Leave = false
is_save (Refuse line) = false

-- ---- what is made of what the folder holds

-- a stopped save is ended or removed first; then the files that are read stand there, and this is made
pub record LeadsTo (Repairs : Held → Held → Type 0) (Stand : Held → FileBytes → Type 0) (files : SavedFiles) (Makes : Held → Held → Type 0) (old new : Held) : Type 0 where
  pub repaired : Held
  pub repair : Repairs old repaired
  pub stand : Stand repaired (bytes_read files)
  pub made : Makes repaired new

-- the saved form of a history, if it is to be saved; else what it held
abbrev pub LeavesFor : Bool → SavedFiles → HistoryParts → Held → Held → Type 0
LeavesFor true files after old new = IsSavedOver files after old new
LeavesFor false files after old new = new ≡ old

-- it leads to this history, with an answer by which it is saved
abbrev pub IsSavedBy : {A : Type 0} → (A → Bool) → (SavedFiles → HistoryParts → A → Type 0) → SavedFiles → HistoryParts → Type 0
IsSavedBy {A} is_saved does files after = (answer : A) × (is_saved answer ≡ true) × does files after answer

-- a stop at any moment leaves a repair so far; or behind one, the save so far of a history that is led to
abbrev pub MayBeLeft : (Held → Held → Type 0) → (Held → FileBytes → Type 0) → (SavedFiles → HistoryParts → Type 0) → Held → Held → Type 0
MayBeLeft Repairs Stand leads old new =
    Repairs old new ⊎ ((files : SavedFiles) × (after : HistoryParts) × leads files after × LeadsTo Repairs Stand files (IsSaving files after) old new)

-- a call that answers: this was done, its answer is said, and the folder holds what the answer says
pub record Called {F A : Type 0} (held : F → Option Held) (may_leave : F → Held → Type 0) (moment : F → ℕ) (left_since : F → ℕ → Held → Type 0) (faults : F → ℕ)
    (Repairs : Held → Held → Type 0) (Stand : Held → FileBytes → Type 0) (is_saved : A → Bool) (does : SavedFiles → HistoryParts → A → Type 0) (says : A → Type 0) (old new : F) : Type 0 where
  pub files : SavedFiles
  pub after : HistoryParts
  pub answer : A
  pub done : does files after answer
  pub said : says answer
  pub ran : Ran held may_leave moment left_since faults (LeadsTo Repairs Stand files (LeavesFor (is_saved answer) files after)) (MayBeLeft Repairs Stand (IsSavedBy is_saved does)) old new

-- whatever it answers, what the folder holds and what a stop at any moment leaves is this
abbrev pub AtAnyMoment : {F A : Type 0} → (F → Option Held) → (F → Held → Type 0) → (F → ℕ) → (F → ℕ → Held → Type 0) → (F → ℕ)
    → (Held → Held → Type 0) → (Held → FileBytes → Type 0) → (A → Bool) → (SavedFiles → HistoryParts → A → Type 0) → F → F → Type 0
AtAnyMoment held may_leave moment left_since faults Repairs Stand is_saved does old new =
    Ran held may_leave moment left_since faults (MayBeLeft Repairs Stand (IsSavedBy is_saved does)) (MayBeLeft Repairs Stand (IsSavedBy is_saved does)) old new

-- a fault that a save, or the printing of its answer, may tell; at every other stop nothing is saved
abbrev pub IsFaultOfSaving : Stop → Type 0
IsFaultOfSaving stop = (stop ≡ stops.Fault streams.OutOfMemory) ⊎ ((stop ≡ stops.Fault streams.Write) ⊎ ((file : InputFile) × (stop ≡ stops.Unwritten file)))
