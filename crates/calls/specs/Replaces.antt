-- The edit that a replacement is. All of it is reqlock's own rule.
use Rattle.std.specs.Bool.{⊤}
use Rattle.std.specs.Prelude.{◌≡◌, ℕ, List, map, IsSomeAnd, Ok}
use Rattle.std.specs.List.{concat}
use Rattle.command_line.specs.declared.invocation.NewLines.{NewLines}
use Rattle.command_line.specs.declared.invocation.NewLines.TheVariants.{File, Was, Line}
use Rattle.edits.specs.ExchangedLine.{with_line_on}
use Rattle.edits.specs.declared.pins.TargetPins.{TargetPins}
use Rattle.edits.specs.declared.request.Edit.{Edit}
use Rattle.edits.specs.declared.request.Edit.TheVariants.{Replace}
use Rattle.files.specs.Beside.{StandFor}
use Rattle.files.specs.declared.saved_files.SavedFiles.{SavedFiles}
use Rattle.inputs.specs.Handed.{Handed, IsAt}
use Rattle.inputs.specs.Inputs.{requirements_in}
use Rattle.inputs.specs.PinsFiles.{ArePinsFor, without_lock}
use Rattle.inputs.specs.declared.input_files.InputFile.TheVariants.{NewRequirements, OldRequirements}
use Rattle.inputs.specs.declared.named_file.NamedPath.{NamedPath}
use Rattle.journal.specs.Changes.{HistoryParts}
use Rattle.journal.specs.Opens.{Opens}
use Rattle.journal.specs.Past.{present}
use Rattle.journal.specs.Values.{ReqFile}
use Rattle.markers.specs.Environment.{Texts}
use Rattle.markers.specs.Names.{normal_of}

-- an edit puts such lines in the place of all lines, with such pins for the targets of the present state
pub record Replaces (AreLines : ReqFile → Type 0) (ArePins : List (List ℕ × Texts) → List TargetPins → Type 0) (history : HistoryParts) (edit : Edit) : Type 0 where
  pub lines : ReqFile
  pub pins : List TargetPins
  pub is : edit ≡ Replace lines pins
  pub asked : AreLines lines
  pub pinned : IsSomeAnd (present history.past) (λ state. ArePins (map without_lock state.targets) pins)

-- the new lines: those of a file that was handed in, those that the folder's file has already, or those of the present state with a text in the place of
-- the line on a name
abbrev pub AreNewLines : Handed → NewLines → SavedFiles → HistoryParts → ReqFile → Type 0
AreNewLines handed (File path) files history lines = (bytes : List ℕ) × IsAt handed NewRequirements path.now bytes × (requirements_in bytes ≡ Ok lines)
AreNewLines handed (Was path) files history lines = requirements_in files.requirements.items ≡ Ok lines
AreNewLines handed (Line name text) files history lines =
    IsSomeAnd (present history.past) (λ state. concat lines ≡ concat (with_line_on (normal_of name.now) text.now state.lines))

abbrev pub IsReplacement : Handed → NewLines → List (NamedPath (List ℕ)) → SavedFiles → HistoryParts → Edit → Type 0
IsReplacement handed asked pins files history edit = Replaces (AreNewLines handed asked files history) (ArePinsFor handed pins) history edit

-- the files stand for the history, with an old file in the place of the folder's where that has the new lines already
abbrev pub IsReplaced : Handed → NewLines → SavedFiles → HistoryParts → Type 0
IsReplaced handed (File path) files history = StandFor files history
IsReplaced handed (Was path) files history = (old : List ℕ) × IsAt handed OldRequirements path.now old × Opens old files.locks.entries files.journal (Ok history)
IsReplaced handed (Line name text) files history = StandFor files history

-- the file in the folder was changed by hand
abbrev pub IsHandChanged : NewLines → Type 0
IsHandChanged (File path) = ⊥
IsHandChanged (Was path) = ⊤
IsHandChanged (Line name text) = ⊥
