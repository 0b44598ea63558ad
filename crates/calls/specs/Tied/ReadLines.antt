-- What was read for the new lines of a replacement. Tied to `AreNewLines` and `IsReplaced` by the contracts of `replaced` and `replaced_to_save`; need not be
-- read.
use Rattle.std.specs.Prelude.{◌≡◌, List, IsSomeAnd, Ok, ⊤}
use Rattle.std.specs.List.{concat}
use Rattle.calls.specs.declared.replacement.LinesRead.{LinesRead}
use Rattle.calls.specs.declared.replacement.LinesRead.TheVariants as read
use Rattle.command_line.specs.declared.invocation.NewLines.{NewLines}
use Rattle.command_line.specs.declared.invocation.NewLines.TheVariants.{File, Was, Line}
use Rattle.edits.specs.ExchangedLine.{with_line_on}
use Rattle.files.specs.Beside.{StandFor}
use Rattle.files.specs.declared.saved_files.SavedFiles.{SavedFiles}
use Rattle.inputs.specs.Handed.{Handed, IsAt}
use Rattle.inputs.specs.Inputs.{requirements_in}
use Rattle.inputs.specs.declared.input_files.InputFile.TheVariants.{NewRequirements, OldRequirements}
use Rattle.journal.specs.Changes.{HistoryParts}
use Rattle.journal.specs.Opens.{Opens}
use Rattle.journal.specs.Past.{present}
use Rattle.journal.specs.Values.{ReqFile}
use Rattle.markers.specs.Names.{normal_of}

-- what was read is of the kind that is asked for, and stands where it is asked for
abbrev pub AreReadFor : Handed → NewLines → LinesRead → Type 0
AreReadFor handed (File path) (read.New bytes) = IsAt handed NewRequirements path.now bytes.items
AreReadFor handed (Was path) (read.Old bytes) = IsAt handed OldRequirements path.now bytes.items
AreReadFor handed (Line name text) (read.Line own other) = (own.now ≡ name.now) × (other.now ≡ text.now)
AreReadFor handed asked lines = ⊥

-- the lines that are made of it
abbrev pub AreMadeOf : LinesRead → SavedFiles → HistoryParts → ReqFile → Type 0
AreMadeOf (read.New bytes) files history lines = requirements_in bytes.items ≡ Ok lines
AreMadeOf (read.Old bytes) files history lines = requirements_in files.requirements.items ≡ Ok lines
AreMadeOf (read.Line name text) files history lines =
    IsSomeAnd (present history.past) (λ state. concat lines ≡ concat (with_line_on (normal_of name.now) text.now state.lines))

-- the history that files open as, with the old file in the place of the folder's if one was read
abbrev pub IsOpened : LinesRead → SavedFiles → HistoryParts → Type 0
IsOpened (read.New bytes) files history = StandFor files history
IsOpened (read.Old bytes) files history = Opens bytes.items files.locks.entries files.journal (Ok history)
IsOpened (read.Line name text) files history = StandFor files history

-- an old file was read
abbrev pub HasOld : LinesRead → Type 0
HasOld (read.New bytes) = ⊥
HasOld (read.Old bytes) = ⊤
HasOld (read.Line name text) = ⊥
