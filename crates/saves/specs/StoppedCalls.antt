-- What a call that was stopped at any moment leads to, behind the repair of the next one. All of it is reqlock's own rule.
use Rattle.std.specs.Prelude.{◌≡◌, ◌⊎◌, ℕ, Bool, List, ◌∷◌, ◌++◌, Ok}
use Rattle.folder.specs.Held.{Held}
use Rattle.folder.specs.Repairs.{IsMoveOf}
use Rattle.journal.specs.Changes.{HistoryParts}
use Rattle.journal.specs.Opens.{Opens}
use Rattle.journal.specs.Saved.{IsSaved}
use Rattle.journal.specs.declared.saved.Saved.{Saved}
use Rattle.files.specs.Beside.{StandFor}
use Rattle.files.specs.Places.{AreInPlace, AreKnown, StandsFor, bytes_read, bytes_saved}
use Rattle.files.specs.Repair.{IsRepairOf}
use Rattle.files.specs.declared.saved_files.SavedFiles.{SavedFiles}
use Rattle.power_cuts.specs.Journals.{HasOldJournal, IsWrittenBeside}
use Rattle.power_cuts.specs.OneHistory.{AreToldApart, texts_of}
use Rattle.power_cuts.specs.Stopped.{digested}
use Rattle.saves.specs.Called.{IsSavedBy, MayBeLeft}

-- a call led from this history to that one, and it is the first or the second, if no two files of them that differ have the same digest
pub record IsOldOrNew (leads : SavedFiles → HistoryParts → Type 0) (now : Held) (history : HistoryParts) (stands : StandsFor now history) : Type 0 where
  pub files : SavedFiles
  pub before : HistoryParts
  pub after : HistoryParts
  pub stood : StandFor files before
  pub led : leads files after
  pub form : Saved
  pub is : IsSaved after form
  pub which : AreToldApart (digested (bytes_read files) ++ digested (bytes_saved form) ++ digested stands.files) → (history ≡ before) ⊎ (history ≡ after)

-- reads don't fail. A call was stopped, and what it left was repaired. Then the files stand for such a history; or the call has changed nothing
abbrev pub LeavesOldOrNew : {A : Type 0} → (A → Bool) → (SavedFiles → HistoryParts → A → Type 0) → Type 0
LeavesOldOrNew is_saved does =
    (old left now : Held) (history : HistoryParts) (stands : StandsFor now history)
    → MayBeLeft (IsRepairOf ⊥) AreInPlace (IsSavedBy is_saved does) old left → IsRepairOf ⊥ left now
    → IsRepairOf ⊥ old now ⊎ IsOldOrNew (IsSavedBy is_saved does) now history stands

-- ---- `init`, and edits where the requirements file may have been changed by hand: there a repair may move files that stand for a history, as where a read fails

-- a call led to this history, and it is that one, if no two files of them that differ have the same digest, and the stop left beside the journal's place what stood
-- there before, or what a write of the new journal leaves
pub record IsNew (leads : SavedFiles → HistoryParts → Type 0) (old left now : Held) (history : HistoryParts) (stands : StandsFor now history) : Type 0 where
  pub files : SavedFiles
  pub after : HistoryParts
  pub led : leads files after
  pub form : Saved
  pub is : IsSaved after form
  pub which : AreToldApart (digested (bytes_saved form) ++ digested stands.files) → IsWrittenBeside form.journal old left → history ≡ after

-- A call was stopped, and what it left was repaired. If the files then stand for a history, they have a journal of before, which tells it; or it is the new one
abbrev pub LeavesOldJournalOrNew : {A : Type 0} → (A → Bool) → (SavedFiles → HistoryParts → A → Type 0) → Type 0
LeavesOldJournalOrNew is_saved does =
    (old left now : Held) (history : HistoryParts) (stands : StandsFor now history)
    → MayBeLeft IsMoveOf AreKnown (IsSavedBy is_saved does) old left → IsMoveOf left now
    → HasOldJournal old now history stands ⊎ IsNew (IsSavedBy is_saved does) old left now history stands

-- A call led from one history to another. With some text in the place of the requirements file, such as the old one, the files that were read open as the first.
-- Then it is the first or the second, if the same holds of that text and all these files
pub record IsOldOrNewByHand (IsFrom leads : SavedFiles → HistoryParts → Type 0) (old left now : Held) (history : HistoryParts) (stands : StandsFor now history) : Type 0 where
  pub files : SavedFiles
  pub before : HistoryParts
  pub after : HistoryParts
  pub from : IsFrom files before
  pub led : leads files after
  pub form : Saved
  pub is : IsSaved after form
  pub which : (text : List ℕ) → Opens text files.locks.entries files.journal (Ok before)
      → AreToldApart (text ∷ texts_of files.locks.entries ++ digested (bytes_saved form) ++ digested stands.files) → IsWrittenBeside form.journal old left → (history ≡ before) ⊎ (history ≡ after)

-- the same of a call that leads from such a history: the files have a journal of before, or stand for one of both
abbrev pub LeavesOldOrNewByHand : {A : Type 0} → (A → Bool) → (SavedFiles → HistoryParts → Type 0) → (SavedFiles → HistoryParts → A → Type 0) → Type 0
LeavesOldOrNewByHand is_saved IsFrom does =
    (old left now : Held) (history : HistoryParts) (stands : StandsFor now history)
    → MayBeLeft IsMoveOf AreInPlace (IsSavedBy is_saved does) old left → IsMoveOf left now
    → HasOldJournal old now history stands ⊎ IsOldOrNewByHand IsFrom (IsSavedBy is_saved does) old left now history stands
