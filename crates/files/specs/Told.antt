-- What the files of a folder tell of a history. All of it is reqlock's own rule.
use Rattle.std.specs.Prelude.{ℕ, Option, IfSome, Ok}
use Rattle.folder.specs.Held.{Held as HeldFiles}
use Rattle.journal.specs.Opens.{ToldBy}
use Rattle.files.specs.Beside.{StandFor}
use Rattle.files.specs.Places.{AreInPlace, bytes_read}
use Rattle.files.specs.declared.held.Held.{Held}
use Rattle.files.specs.declared.held.Held.TheVariants.{Changed, History}
use Rattle.files.specs.declared.saved_files.SavedFiles.{SavedFiles}

-- the history that they stand for; or what the locks and the journal tell without the requirements file
abbrev pub Tells : SavedFiles → Held → Type 0
Tells files (History history) = StandFor files history
Tells files (Changed told lines) = ToldBy files.locks.entries files.journal (Ok told)

-- the place of the present state
abbrev pub cursor_of : Held → ℕ
cursor_of (History history) = history.past.cursor
cursor_of (Changed told lines) = told.cursor

-- this was told by files that were read, which stand in their places if it is known what the folder holds
pub record IsToldOf (held : Option HeldFiles) (told : Held) : Type 0 where
  pub files : SavedFiles
  pub tells : Tells files told
  pub places : IfSome held (λ h. AreInPlace h (bytes_read files))
