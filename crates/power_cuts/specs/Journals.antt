-- The journal in its place behind a save that was stopped. All of it is reqlock's own rule.
use Rattle.std.specs.Prelude.{◌≡◌, ◌⊎◌, ℕ, List, ◌∷◌, ◌++◌, Option, Some, IfSome, Ok}
use Rattle.folder.specs.Held.{Held}
use Rattle.folder.specs.Repairs.{IsMoveOf}
use Rattle.inputs.specs.FileNames.{name_of}
use Rattle.inputs.specs.declared.input_files.InputFile.TheVariants.{Journal}
use Rattle.journal.specs.Changes.{HistoryParts}
use Rattle.journal.specs.Locks.{LockTexts}
use Rattle.journal.specs.Opens.{Opens}
use Rattle.files.specs.Places.{FileBytes, StandsFor, bytes_saved}
use Rattle.files.specs.Saving.{IsSaving}
use Rattle.files.specs.declared.saved_files.SavedFiles.{SavedFiles}
use Rattle.power_cuts.specs.OneHistory.{AreToldApart, texts_of}
use Rattle.power_cuts.specs.Stopped.{digested}

-- ---- what a stopped write of a journal leaves

-- no files open with these bytes as their journal
abbrev pub IsNoJournal : List ℕ → Type 0
IsNoJournal bytes = (requirements : List ℕ) (locks : LockTexts) (history : HistoryParts) → Opens requirements locks bytes (Ok history) → ⊥

-- nothing is there, or this journal, or bytes that are none
abbrev pub IsWholeOrNone : List ℕ → Option (List ℕ) → Type 0
IsWholeOrNone journal found = (found ≡ Some journal) ⊎ IfSome found IsNoJournal

-- the beginning of a journal is all of it, or none
abbrev pub ACutJournalIsNone : Type 0
ACutJournalIsNone =
    (requirements part rest : List ℕ) (locks : LockTexts) (history : HistoryParts) → Opens requirements locks (part ++ rest) (Ok history) → IsWholeOrNone (part ++ rest) (Some part)

-- beside the journal's place stands what stood there before, or what a stopped write of this journal leaves
abbrev pub IsWrittenBeside : List ℕ → Held → Held → Type 0
IsWrittenBeside journal old left = (left.beside (name_of Journal) ≡ old.beside (name_of Journal)) ⊎ IsWholeOrNone journal (left.beside (name_of Journal))

-- ---- a journal of before

-- the journal in its place stood there before, or beside it
abbrev pub IsOldJournal : Held → Held → Type 0
IsOldJournal old now = (now.placed (name_of Journal) ≡ old.placed (name_of Journal)) ⊎ (now.placed (name_of Journal) ≡ old.beside (name_of Journal))

-- files that stand for a history have such a journal. It tells this history alone: whatever files open with it open as this one, if no two of all these files that
-- differ have the same digest
pub record HasOldJournal (old now : Held) (history : HistoryParts) (stands : StandsFor now history) : Type 0 where
  pub stood : IsOldJournal old now
  pub tells : (requirements : List ℕ) (locks : LockTexts) (other : HistoryParts)
      → AreToldApart (requirements ∷ texts_of locks ++ digested stands.files) → Opens requirements locks stands.files.journal (Ok other) → history ≡ other

-- with the journal in its place some files open as this history, such as those that stand there; and no journal stands beside it
pub record IsToldThere (history : HistoryParts) (held : Held) : Type 0 where
  pub files : FileBytes
  pub opens : Opens files.requirements files.locks files.journal (Ok history)
  pub placed : held.placed (name_of Journal) ≡ Some files.journal
  pub alone : IfSome (held.beside (name_of Journal)) IsNoJournal

-- then it is this history that a journal of before tells
abbrev pub AnOldJournalTellsItsHistory : Type 0
AnOldJournalTellsItsHistory =
    (old now : Held) (before history : HistoryParts) (told : IsToldThere before old) (stands : StandsFor now history)
    → HasOldJournal old now history stands → AreToldApart (digested told.files ++ digested stands.files) → history ≡ before

-- where no journal stood in its place or beside it, there is none of before
abbrev pub NoOldJournalWhereNoneStood : Type 0
NoOldJournalWhereNoneStood =
    (old now : Held) (history : HistoryParts) (stands : StandsFor now history)
    → IfSome (old.placed (name_of Journal)) IsNoJournal → IfSome (old.beside (name_of Journal)) IsNoJournal → HasOldJournal old now history stands → ⊥

-- ---- a stopped save

-- A save over any folder is stopped at any moment, and then files are moved as any repair may. If files then stand for a history, they have a journal of before;
-- or it is the new history, if no two files that differ have the same digest, and the stop left beside the journal's place what stood there before, or what a write
-- of the new journal leaves
abbrev pub AStopLeavesAnOldJournalOrTheNew : Type 0
AStopLeavesAnOldJournalOrTheNew =
    (files : SavedFiles) (next after : HistoryParts) (old left now : Held) (save : IsSaving files next old left) (stands : StandsFor now after)
    → IsMoveOf left now
    → HasOldJournal old now after stands
    ⊎ (AreToldApart (digested (bytes_saved save.form) ++ digested stands.files) → IsWrittenBeside save.form.journal old left → after ≡ next)
