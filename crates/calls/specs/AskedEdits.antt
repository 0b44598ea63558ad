-- What an edit that a call asks for is made of. All of it is reqlock's own rule.
use Rattle.std.specs.Prelude.{◌≡◌, ◌⊎◌, ℕ, List, Option, IfSome}
use Rattle.calls.specs.Replaces.{IsHandChanged, IsReplaced, IsReplacement}
use Rattle.calls.specs.Retargets.{LeadsToNamed}
use Rattle.command_line.specs.declared.invocation.AskedEdit.{AskedEdit}
use Rattle.command_line.specs.declared.invocation.AskedEdit.TheVariants.{Replace, Retarget, Typed}
use Rattle.edits.specs.declared.request.Edit.{Edit}
use Rattle.files.specs.Beside.{StandFor}
use Rattle.files.specs.Places.{AreInPlace, bytes_read}
use Rattle.files.specs.declared.saved_files.SavedFiles.{SavedFiles}
use Rattle.folder.specs.Held.{Held}
use Rattle.inputs.specs.Handed.{Handed}
use Rattle.inputs.specs.PinsFiles.{pins_paths}
use Rattle.inputs.specs.declared.named_file.NamedPath.{NamedPath}
use Rattle.journal.specs.Changes.{HistoryParts}

-- the edit is the typed one, or it puts the lines that are asked for in the place of those of this history, or leads to the targets at these paths; both with
-- what the files pin that are handed in
abbrev pub IsMadeOf : Handed → AskedEdit → List (NamedPath (List ℕ)) → SavedFiles → HistoryParts → Edit → Type 0
IsMadeOf handed (Typed typed) paths files history edit = edit ≡ typed
IsMadeOf handed (Replace replacement) paths files history edit = IsReplacement handed replacement.lines (pins_paths replacement.pins) files history edit
IsMadeOf handed (Retarget targets) paths files history edit = LeadsToNamed handed paths (pins_paths targets.pins) edit

-- these files stand for the history in which it is made
abbrev pub IsHistoryFor : Handed → AskedEdit → SavedFiles → HistoryParts → Type 0
IsHistoryFor handed (Typed typed) files history = StandFor files history
IsHistoryFor handed (Replace replacement) files history = IsReplaced handed replacement.lines files history
IsHistoryFor handed (Retarget targets) files history = StandFor files history

-- the same of files that were read, and stand in their places if it is known what the folder holds
pub record IsMadeOfRead (held : Option Held) (handed : Handed) (asked : AskedEdit) (paths : List (NamedPath (List ℕ))) (history : HistoryParts) (edit : Edit) : Type 0 where
  pub files : SavedFiles
  pub places : IfSome held (λ h. AreInPlace h (bytes_read files))
  pub stand : IsHistoryFor handed asked files history
  pub made : IsMadeOf handed asked paths files history edit

-- files that stand for a history may give way to those of a stopped save: a read may fail, or the requirements file was changed by hand
abbrev pub MayGiveWay : AskedEdit → Type 0 → Type 0
MayGiveWay (Typed typed) may_fail = may_fail
MayGiveWay (Replace replacement) may_fail = may_fail ⊎ IsHandChanged replacement.lines
MayGiveWay (Retarget targets) may_fail = may_fail
