-- What the save of a history over the files that were read makes of a folder. All of it is reqlock's own rule.
use Rattle.std.specs.Prelude.{◌≡◌, ◌⊎◌, ℕ, List, map}
use Rattle.folder.specs.Held.{Held}
use Rattle.folder.specs.Saves.{IsUnderWay, NewFileParts, saved}
use Rattle.inputs.specs.FileNames.{name_of}
use Rattle.journal.specs.Changes.{HistoryParts}
use Rattle.journal.specs.Saved.{IsSaved, OpensAs}
use Rattle.journal.specs.declared.saved.Saved.{Saved}
use Rattle.files.specs.NamedRewrites.{new_file}
use Rattle.files.specs.Places.{AreInPlace, bytes_saved}
use Rattle.files.specs.Rewrites.{going_of, rewrites_of}
use Rattle.files.specs.declared.saved_files.SavedFiles.{SavedFiles}

-- the files that are written, and the names of those that go
abbrev pub writes : SavedFiles → Saved → List NewFileParts
writes files new = map new_file (rewrites_of files new)

abbrev pub goings : SavedFiles → Saved → List (List ℕ)
goings files new = map (λ file. name_of file) (going_of files new)

-- all of the saved form of a history is in its place, and what is in no place of it is as it was
pub record IsSavedOver (files : SavedFiles) (history : HistoryParts) (old new : Held) : Type 0 where
  pub form : Saved
  pub is : IsSaved history form
  pub opens : OpensAs history form
  pub made : new ≡ saved (writes files form) (goings files form) old
  pub places : AreInPlace new (bytes_saved form)

-- the save has come so far
pub record IsSaving (files : SavedFiles) (history : HistoryParts) (old new : Held) : Type 0 where
  pub form : Saved
  pub is : IsSaved history form
  pub opens : OpensAs history form
  pub so_far : IsUnderWay (writes files form) (goings files form) old new

-- or nothing is done
abbrev pub IsBeingSavedOver : SavedFiles → HistoryParts → Held → Held → Type 0
IsBeingSavedOver files history old new = (new ≡ old) ⊎ IsSaving files history old new
