-- What was read for the new lines of a replacement leads to what is asked for.
use Rattle.std.proofs.Common.{◌≡◌, List, ℕ, IfOk, IsSomeAnd, Option, Some, None, Result, Ok, Err, subst}
use Rattle.std.specs.List.{concat}
use Rattle.calls.specs.Replaces.{AreNewLines, IsHandChanged, IsReplaced, IsReplacement, Replaces}
use Rattle.calls.specs.Tied.ReadLines.{AreMadeOf, AreReadFor, HasOld, IsOpened}
use Rattle.calls.specs.declared.replacement.LinesRead.{LinesRead}
use Rattle.calls.specs.declared.replacement.LinesRead.TheVariants as read
use Rattle.command_line.specs.declared.invocation.NewLines.{NewLines}
use Rattle.command_line.specs.declared.invocation.NewLines.TheVariants.{File, Was, Line}
use Rattle.edits.specs.ExchangedLine.{with_line_on}
use Rattle.edits.specs.declared.request.Edit.{Edit}
use Rattle.files.specs.declared.saved_files.SavedFiles.{SavedFiles}
use Rattle.inputs.specs.Faults.{of_file}
use Rattle.inputs.specs.Inputs.{requirements_in}
use Rattle.inputs.specs.Handed.{AreAt, Handed}
use Rattle.inputs.specs.PinsFiles.{ArePinsOf}
use Rattle.inputs.specs.declared.fault.Fault.{Fault}
use Rattle.inputs.specs.declared.input_files.InputFault.{InputFault}
use Rattle.inputs.specs.declared.input_files.InputFault.TheVariants as inputs
use Rattle.inputs.specs.declared.input_files.InputFile.{InputFile}
use Rattle.inputs.specs.declared.input_files.InputFile.TheVariants.{Pins}
use Rattle.inputs.specs.declared.named_file.NamedBytes.{NamedBytes}
use Rattle.inputs.specs.declared.named_file.NamedPath.{NamedPath}
use Rattle.journal.specs.Changes.{HistoryParts}
use Rattle.journal.specs.Past.{present}
use Rattle.journal.specs.Values.{ReqFile, State}
use Rattle.lists.specs.Answers.{Answers}
use Rattle.markers.specs.Names.{normal_of}

-- the lines that were made are those that are asked for
new-lines : (handed : Handed) (asked : NewLines) (lines : LinesRead) (files : SavedFiles) (history : HistoryParts) (made : ReqFile)
    → AreReadFor handed asked lines → AreMadeOf lines files history made → AreNewLines handed asked files history made
new-lines handed (File path) (read.New bytes) files history made r m = (bytes.items, r, m)
new-lines handed (Was path) (read.Old bytes) files history made r m = m
new-lines handed (Line name text) (read.Line own other) files history made r m =
    subst (λ (n : List ℕ). IsSomeAnd (present history.past) (λ (state : State). concat made ≡ concat (with_line_on (normal_of n) text.now state.lines))) r.0
    (subst (λ (t : List ℕ). IsSomeAnd (present history.past) (λ (state : State). concat made ≡ concat (with_line_on (normal_of own.now) t state.lines))) r.1 m)
new-lines handed asked lines files history made r m = absurd r

some-weaker : {A : Type 0} {P Q : A → Type 0} (o : Option A) → ((a : A) → P a → Q a) → IsSomeAnd o P → IsSomeAnd o Q
some-weaker (Some a) weaker p = weaker a p
some-weaker None weaker p = p

-- an edit that puts them in the place of all lines is the replacement
pub replacement : (handed : Handed) (asked : NewLines) (lines : LinesRead) (pinned : List (NamedBytes (List ℕ))) (pins : List (NamedPath (List ℕ))) (files : SavedFiles) (history : HistoryParts) (edit : Edit)
    → AreReadFor handed asked lines → AreAt handed Pins pins pinned → Replaces (AreMadeOf lines files history) (ArePinsOf pinned) history edit → IsReplacement handed asked pins files history edit
replacement handed asked lines pinned pins files history edit r at e = record {
  lines = e.lines;
  pins = e.pins;
  is = e.is;
  asked = new-lines handed asked lines files history e.lines r e.asked;
  pinned = some-weaker (present history.past) (λ state are. (pinned, at, are)) e.pinned;
}

-- the history that was opened is the one that is asked for
pub replaced : (handed : Handed) (asked : NewLines) (lines : LinesRead) (files : SavedFiles) (history : HistoryParts)
    → AreReadFor handed asked lines → IsOpened lines files history → IsReplaced handed asked files history
replaced handed (File path) (read.New bytes) files history r o = o
replaced handed (Was path) (read.Old bytes) files history r o = (bytes.items, r, o)
replaced handed (Line name text) (read.Line own other) files history r o = o
replaced handed asked lines files history r o = absurd r

-- lines that a call answers are those that the bytes are
pub are-read : (file : InputFile) (bytes : List ℕ) (read : Result ReqFile InputFault) (result : Result ReqFile Fault)
    → Answers inputs.OutOfMemory (requirements_in bytes) read → result ≡ of_file file read → IfOk result (λ lines. requirements_in bytes ≡ Ok lines)
are-read file bytes (Ok lines) result a e = rw e a
are-read file bytes (Err inputs.OutOfMemory) result a e = rw e tt
are-read file bytes (Err fault) result a e = rw e tt

-- where an old file was read, the one in the folder was changed by hand
pub hand_changed : (handed : Handed) (asked : NewLines) (lines : LinesRead) → AreReadFor handed asked lines → HasOld lines → IsHandChanged asked
hand_changed handed (Was path) lines r old = tt
hand_changed handed (File path) (read.New bytes) r old = old
hand_changed handed (File path) (read.Old bytes) r old = r
hand_changed handed (File path) (read.Line own other) r old = old
hand_changed handed (Line name text) (read.New bytes) r old = old
hand_changed handed (Line name text) (read.Old bytes) r old = r
hand_changed handed (Line name text) (read.Line own other) r old = old
