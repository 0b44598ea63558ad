-- What the files in the places of a folder stand for. All of it is reqlock's own rule.
use Rattle.std.specs.Prelude.{◌≡◌, ◌⊎◌, ℕ, Bool, true, false, List, [], Option, Some, None, IfSome, Ok}
use Rattle.std.specs.List.{AllByRecursion}
use Rattle.folder.specs.Held.{Held}
use Rattle.inputs.specs.FileNames.{name_of}
use Rattle.inputs.specs.declared.fault.Fault.{Fault}
use Rattle.inputs.specs.declared.fault.Fault.TheVariants.{Input, OutOfMemory, Unwritten}
use Rattle.inputs.specs.declared.input_files.InputFault.TheVariants.{Unreadable}
use Rattle.inputs.specs.declared.input_files.InputFile.{InputFile}
use Rattle.inputs.specs.declared.input_files.InputFile.TheVariants.{Requirements, Lock, Journal}
use Rattle.inputs.specs.declared.unread.Unread.{Unread}
use Rattle.journal.specs.Changes.{HistoryParts}
use Rattle.journal.specs.Locks.{LockTexts}
use Rattle.journal.specs.Opens.{Opens}
use Rattle.journal.specs.Saved.{IsSaved, OpensAs}
use Rattle.journal.specs.declared.saved.Saved.{Saved}
use Rattle.files.specs.JournalLocks.{AreOfJournal}
use Rattle.files.specs.TargetLocks.{is_among}
use Rattle.files.specs.declared.saved_files.SavedFiles.{SavedFiles}

-- the bytes of a requirements file, of locks by the names of their targets, and of a journal
pub record FileBytes : Type 0 where
  pub requirements : List ℕ
  pub locks : LockTexts
  pub journal : List ℕ

-- the locks that were read are those that the journal names
abbrev pub AreNamed : SavedFiles → Type 0
AreNamed files = AreOfJournal files.journal files.locks.entries

-- those that were read, and those that are saved
abbrev pub bytes_read : SavedFiles → FileBytes
bytes_read files = record { requirements = files.requirements.items; locks = files.locks.entries; journal = files.journal }

abbrev pub bytes_saved : Saved → FileBytes
bytes_saved saved = record { requirements = saved.requirements; locks = saved.locks.entries; journal = saved.journal }

-- what stands beside a file's place, or in it
abbrev pub standing : Bool → Held → InputFile → Option (List ℕ)
standing true held file = held.beside (name_of file)
standing false held file = held.placed (name_of file)

-- these locks stand there
abbrev pub LocksStandAt : (InputFile → Bool) → Held → LockTexts → Type 0
LocksStandAt is_beside held locks = AllByRecursion (λ lock. standing (is_beside (Lock lock.0)) held (Lock lock.0) ≡ Some lock.1) locks

-- these files stand there: beside their places those of which this is told, and all others in them
pub record StandAt (is_beside : InputFile → Bool) (held : Held) (files : FileBytes) : Type 0 where
  pub requirements : standing (is_beside Requirements) held Requirements ≡ Some files.requirements
  pub locks : LocksStandAt is_beside held files.locks
  pub journal : standing (is_beside Journal) held Journal ≡ Some files.journal

-- a file isn't read for want of memory, or as it can't be: it isn't there, or a read may fail
abbrev pub IsUnread : Option Held → Type 0 → Bool → InputFile → Fault → Type 0
IsUnread held may_fail is_beside file fault =
    (fault ≡ OutOfMemory) ⊎ (((why : Unread) × (fault ≡ Input file (Unreadable why))) × (may_fail ⊎ IfSome held (λ h. standing is_beside h file ≡ None)))

-- no lock stands there of one of these names
abbrev pub LacksLock : (InputFile → Bool) → List (List ℕ) → Held → Type 0
LacksLock is_beside names held = (name : List ℕ) × (is_among names name ≡ true) × (standing (is_beside (Lock name)) held (Lock name) ≡ None)

-- no files stand there with the locks that their journal names
abbrev pub NoFilesStand : (InputFile → Bool) → Held → Type 0
NoFilesStand is_beside held = (files : FileBytes) → StandAt is_beside held files → AreOfJournal files.journal files.locks → ⊥

-- files aren't read for want of memory, or as a read may fail, or as this is so of what is held
abbrev pub AreUnread : Option Held → Type 0 → (Held → Type 0) → Fault → Type 0
AreUnread held may_fail Is fault = (fault ≡ OutOfMemory) ⊎ (may_fail ⊎ IfSome held Is)

-- why a save fails: a file can't be written, or for want of memory
abbrev pub IsUnsaved : Fault → Type 0
IsUnsaved fault = (fault ≡ OutOfMemory) ⊎ ((file : InputFile) × (fault ≡ Unwritten file))

-- what is held is so, and so is each thing that a stop may leave
abbrev pub AllAre : Option Held → (Held → Type 0) → (Held → Type 0) → Type 0
AllAre held may_leave Is = IfSome held Is × ((c : Held) → may_leave c → Is c)

-- these files stand in their places
abbrev pub AreInPlace : Held → FileBytes → Type 0
AreInPlace held files = StandAt (λ file. false) held files

-- the same, but that a journal which counts as empty, as before a first save, may be any
pub record AreKnown (held : Held) (files : FileBytes) : Type 0 where
  pub requirements : held.placed (name_of Requirements) ≡ Some files.requirements
  pub locks : LocksStandAt (λ file. false) held files.locks
  pub journal : (held.placed (name_of Journal) ≡ Some files.journal) ⊎ (files.journal ≡ [])

-- the files in their places stand for this history
pub record StandsFor (held : Held) (history : HistoryParts) : Type 0 where
  pub files : FileBytes
  pub places : AreInPlace held files
  pub opens : Opens files.requirements files.locks files.journal (Ok history)

-- the saved form of this history is in its place, and opens as this history alone
pub record IsHeldOf (history : HistoryParts) (held : Held) : Type 0 where
  pub saved : Saved
  pub is : IsSaved history saved
  pub opens : OpensAs history saved
  pub places : AreInPlace held (bytes_saved saved)

-- this is the history of files that were read, which stand in their places if it is known what the folder holds
pub record IsReadOf (held : Option Held) (history : HistoryParts) : Type 0 where
  pub files : SavedFiles
  pub opens : Opens files.requirements.items files.locks.entries files.journal (Ok history)
  pub places : IfSome held (λ h. AreInPlace h (bytes_read files))
