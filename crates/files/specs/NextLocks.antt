-- Which lock is taken from beside its place next, where files don't open. All of it is reqlock's own rule.
use Rattle.std.specs.Prelude.{◌≡◌, ◌⊎◌, ℕ, Bool, true, false, List, Option, Some, None, Result, Ok, Err, is_some, length, not}
use Rattle.std.specs.Str.{bytes_eq}
use Rattle.folder.specs.Held.{Held}
use Rattle.inputs.specs.declared.fault.Fault.{Fault}
use Rattle.inputs.specs.declared.fault.Fault.TheVariants.{Input, OutOfMemory}
use Rattle.inputs.specs.declared.input_files.InputFault.{InputFault}
use Rattle.inputs.specs.declared.input_files.InputFile.{InputFile}
use Rattle.inputs.specs.declared.input_files.InputFile.TheVariants.{Requirements, Lock, Journal, Index, Environment, NewRequirements, OldRequirements, Pins}
use Rattle.journal.specs.Locks.{lock_at}
use Rattle.files.specs.Beside.{has}
use Rattle.files.specs.Completed.{AreLocksToldApart, Completes, IsUnless}
use Rattle.files.specs.JournalLocks.{Names}
use Rattle.files.specs.Places.{standing}
use Rattle.files.specs.TargetLocks.{is_among}
use Rattle.files.specs.declared.beside.Beside.{Beside}

-- why files aren't read or don't open: for want of memory, or for a fault of this file
abbrev pub IsFaultOf : Type 0 → Option Held → (InputFile → Held → Type 0) → Fault → Type 0
IsFaultOf may_fail held Is fault = (fault ≡ OutOfMemory) ⊎ ((file : InputFile) × (why : InputFault) × (fault ≡ Input file why) × IsUnless may_fail held (Is file))

-- a file is one of those that are read: of the locks, those that the journal names
abbrev pub IsToRead : (InputFile → Bool) → InputFile → Held → Type 0
IsToRead is_beside Requirements held = Unit {0}
IsToRead is_beside (Lock name) held =
    (journal : List ℕ) × (names : List (List ℕ)) × (standing (is_beside Journal) held Journal ≡ Some journal) × Names journal names × (is_among names name ≡ true)
IsToRead is_beside Journal held = Unit {0}
IsToRead is_beside Index held = ⊥
IsToRead is_beside (Environment name) held = ⊥
IsToRead is_beside NewRequirements held = ⊥
IsToRead is_beside OldRequirements held = ⊥
IsToRead is_beside (Pins name) held = ⊥

-- it doesn't stand there
abbrev pub IsLacking : (InputFile → Bool) → InputFile → Held → Type 0
IsLacking is_beside file held = IsToRead is_beside file held × (standing (is_beside file) held file ≡ None)

-- a way takes these files from beside their places, and maybe more locks
pub record TakesMore (beside : Beside) (way : InputFile → Bool) : Type 0 where
  pub requirements : way Requirements ≡ beside.requirements
  pub journal : way Journal ≡ beside.journal
  pub locks : (name : List ℕ) → has beside (Lock name) ≡ true → way (Lock name) ≡ true

-- a file is a lock that a way takes from beside its place, and that isn't taken from there so far
pub record IsNextOf (beside : Beside) (way : InputFile → Bool) (held : Held) (whole : Completes way held) (file : InputFile) : Type 0 where
  pub name : List ℕ
  pub is : file ≡ Lock name
  pub left : has beside file ≡ false
  pub taken : way file ≡ true
  pub there : is_some (lock_at whole.files.locks name) ≡ true

-- a file is the next one of each way that takes more, and completes the folder
abbrev pub IsNext : Beside → InputFile → Held → Type 0
IsNext beside file held = AreLocksToldApart held → (way : InputFile → Bool) (whole : Completes way held) → TakesMore beside way → IsNextOf beside way held whole file

-- whether a file is a lock that isn't taken from beside its place so far
abbrev pub is_left_lock : Beside → InputFile → Bool
is_left_lock beside (Lock name) = not (has beside (Lock name))
is_left_lock beside file = false

-- a lock is taken from beside its place too
pub record Takes (file : InputFile) (old new : Beside) : Type 0 where
  pub requirements : new.requirements ≡ old.requirements
  pub journal : new.journal ≡ old.journal
  pub locks : (name : List ℕ) → (has new (Lock name) ≡ true) → (has old (Lock name) ≡ true) ⊎ (file ≡ Lock name)
  pub keeps : (name : List ℕ) → (has old (Lock name) ≡ true) ⊎ (file ≡ Lock name) → has new (Lock name) ≡ true

-- no way that takes more than these files from beside completes the folder
abbrev pub NoneTakesMore : Beside → Held → Type 0
NoneTakesMore beside held = AreLocksToldApart held → (way : InputFile → Bool) → Completes way held → TakesMore beside way → ⊥

-- so many locks the journal names
abbrev pub IsCounted : Beside → ℕ → Held → Type 0
IsCounted beside count held =
    (journal : List ℕ) (names : List (List ℕ)) → standing (has beside Journal) held Journal ≡ Some journal → Names journal names → count ≡ length names

-- the lock of one of these names doesn't stand there
abbrev pub LacksLockOf : (InputFile → Bool) → List (List ℕ) → InputFile → Held → Type 0
LacksLockOf is_beside names file held = ((name : List ℕ) × (file ≡ Lock name) × (is_among names name ≡ true)) × (standing (is_beside file) held file ≡ None)

-- the file that a fault is of; or the fault, where it is of none
abbrev pub file_at_fault : Fault → Result InputFile Fault
file_at_fault (Input file why) = Ok file
file_at_fault fault = Err fault
