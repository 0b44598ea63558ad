-- Files that were read and opened.
use Rattle.std.proofs.Common.{Option, Result, Ok, Err}
use Rattle.std.specs.Prelude.{IfOk, IfSome}
use Rattle.folder.specs.Held.{Held}
use Rattle.journal.specs.Changes.{HistoryParts}
use Rattle.journal.specs.Opens.{Opens}
use Rattle.files.specs.Places.{AreInPlace, IsReadOf, bytes_read}
use Rattle.files.specs.Told.{IsToldOf, Tells}
use Rattle.files.specs.declared.held.Held.{Held as Told}
use Rattle.inputs.specs.Faults.{TellsFault}
use Rattle.inputs.specs.declared.fault.Fault.{Fault}
use Rattle.files.specs.declared.saved_files.SavedFiles.{SavedFiles}

pub is-read : (held : Option Held) (files : SavedFiles) (read : Result HistoryParts Fault) → IfSome held (λ h. AreInPlace h (bytes_read files)) → TellsFault (Opens files.requirements.items files.locks.entries files.journal) read → IfOk read (IsReadOf held)
is-read held files (Ok history) places opens = record { files = files; opens = opens; places = places }
is-read held files (Err fault) places told = tt

pub is-told : (held : Option Held) (files : SavedFiles) (told : Result Told Fault) → IfSome held (λ h. AreInPlace h (bytes_read files)) → IfOk told (Tells files) → IfOk told (IsToldOf held)
is-told held files (Ok told) places tells = record { files = files; tells = tells; places = places }
is-told held files (Err fault) places tells = tt
