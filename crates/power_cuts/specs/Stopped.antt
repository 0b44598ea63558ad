-- What a stopped save of a history leads to, behind the repair of the next call. All of it is reqlock's own rule.
use Rattle.std.specs.Prelude.{◌≡◌, ◌⊎◌, ℕ, List, [], ◌∷◌, ◌++◌}
use Rattle.folder.specs.Held.{Held}
use Rattle.journal.specs.Changes.{HistoryParts}
use Rattle.files.specs.Places.{FileBytes, StandsFor, bytes_read, bytes_saved}
use Rattle.files.specs.Repair.{IsRepairOf}
use Rattle.files.specs.Saving.{IsSaving}
use Rattle.files.specs.declared.saved_files.SavedFiles.{SavedFiles}
use Rattle.power_cuts.specs.OneHistory.{AreToldApart, texts_of}

-- a save of another history in the place of this one, stopped at any moment, has left this. All that stood for the old one was read before; or the journal
-- wasn't and counts as empty, as before a first save
pub record IsStopped (history next : HistoryParts) (left : Held) : Type 0 where
  pub old : Held
  pub stood : StandsFor old history
  pub files : SavedFiles
  pub read : (bytes_read files ≡ stood.files) ⊎ (files.journal ≡ [])
  pub save : IsSaving files next old left

-- the files whose digests a journal has
abbrev pub digested : FileBytes → List (List ℕ)
digested files = files.requirements ∷ texts_of files.locks

-- what the files stand for behind a stopped save and its repair is the old history or the new one
abbrev pub AStopLeavesTheOldOrTheNew : Type 0
AStopLeavesTheOldOrTheNew =
    (history next after : HistoryParts) (left now : Held) (stopped : IsStopped history next left) (stands : StandsFor now after)
    → IsRepairOf ⊥ left now
    → AreToldApart (digested stopped.stood.files ++ digested (bytes_saved stopped.save.form) ++ digested stands.files)
    → (after ≡ history) ⊎ (after ≡ next)
