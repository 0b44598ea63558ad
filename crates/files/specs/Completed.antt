-- How a folder is completed in which a save was stopped. All of it is reqlock's own rule.
use Rattle.std.specs.Prelude.{◌≡◌, ◌⊎◌, ℕ, Bool, true, false, List, Option, Some, None, IfSome, map, Ok}
use Rattle.sha2.specs.Sha256.{sha256}
use Rattle.folder.specs.Held.{Held}
use Rattle.folder.specs.Repairs.{IsEnding, LeftParts, finished}
use Rattle.inputs.specs.FileNames.{name_of}
use Rattle.inputs.specs.declared.input_files.InputFile.{InputFile}
use Rattle.inputs.specs.declared.input_files.InputFile.TheVariants.{Requirements, Lock, Journal}
use Rattle.journal.specs.Changes.{HistoryParts}
use Rattle.journal.specs.Opens.{Opens}
use Rattle.files.specs.Beside.{has_requirements}
use Rattle.files.specs.Places.{FileBytes, StandAt, StandsFor}

-- where the requirements file is taken from beside its place, a state of the history has the one that gives way
abbrev pub GivesWay : Bool → HistoryParts → Held → Type 0
GivesWay false history held = Unit {0}
GivesWay true history held =
    (requirements : List ℕ) × (held.placed (name_of Requirements) ≡ Some requirements) × (has_requirements history.past.states requirements ≡ true)

-- the files of a folder stand for a history, where those of which this is told are taken from beside their places
pub record Completes (way : InputFile → Bool) (held : Held) : Type 0 where
  pub files : FileBytes
  pub stand : StandAt way held files
  pub history : HistoryParts
  pub opens : Opens files.requirements files.locks files.journal (Ok history)
  pub gives_way : GivesWay (way Requirements) history held

-- the folder can be completed in some way
abbrev pub CanBeCompleted : Held → Type 0
CanBeCompleted held = (way : InputFile → Bool) × Completes way held

-- a lock in its place and one beside it that differ have different digests
abbrev pub AreLocksToldApart : Held → Type 0
AreLocksToldApart held =
    (name one other : List ℕ) → held.placed (name_of (Lock name)) ≡ Some one → held.beside (name_of (Lock name)) ≡ Some other → sha256 one ≡ sha256 other
    → one ≡ other

-- the folder can't be completed, if its locks are told apart
abbrev pub IsBeyondRepair : Held → Type 0
IsBeyondRepair held = AreLocksToldApart held → CanBeCompleted held → ⊥

-- not by a way that takes the requirements file and the journal from these places
abbrev pub NoneCompletes : Bool → Bool → Held → Type 0
NoneCompletes requirements journal held =
    AreLocksToldApart held → (way : InputFile → Bool) → Completes way held → way Requirements ≡ requirements → way Journal ≡ journal → ⊥

-- no requirements file stands in its place
abbrev pub LacksRequirements : Held → Type 0
LacksRequirements held = held.placed (name_of Requirements) ≡ None

-- what is held is so, unless a read may fail
abbrev pub IsUnless : Type 0 → Option Held → (Held → Type 0) → Type 0
IsUnless may_fail held Is = may_fail ⊎ IfSome held Is

-- the files in the places stand for some history
abbrev pub Stands : Held → Type 0
Stands held = (history : HistoryParts) × StandsFor held history

-- what a save has left to do completes the folder; and wherever that is stopped, the folder can be completed still
pub record IsWayBack (left : LeftParts) (held : Held) : Type 0 where
  pub done : Stands (finished left held)
  pub stopped : (now : Held) → IsEnding left held now → CanBeCompleted now

-- the same of files that are to be removed, and of files that are to be put from beside into their places then
abbrev pub IsWayOf : List InputFile → List InputFile → Held → Type 0
IsWayOf going beside held = IsWayBack (record { going = map (λ file. name_of file) going; names = map (λ file. name_of file) beside }) held

-- a folder that could be completed can be still
abbrev pub StaysCompletable : Held → Held → Type 0
StaysCompletable old new = CanBeCompleted old → CanBeCompleted new
