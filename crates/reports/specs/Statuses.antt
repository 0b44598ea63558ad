-- With which status the program stops. All of it is reqlock's own rule.
use Rattle.std.specs.Prelude.{◌≡◌, ◌⊎◌, ℕ, List, Option, string_bytes}
use Rattle.std.specs.Io.KnownBytes.{Appends}
use Rattle.clap.specs.declared.error.kind.ErrorKind.{ErrorKind}
use Rattle.clap.specs.declared.error.kind.ErrorKind.TheVariants as kinds
use Rattle.stops.specs.declared.stop.Stop.{Stop}
use Rattle.stops.specs.declared.stop.Stop.TheVariants as stops
use Rattle.commands.specs.Replies.{text_of_reply}
use Rattle.commands.specs.Runs.{IsCutOff}
use Rattle.journal.specs.declared.commands.Reply.TheVariants as replies
use Rattle.reports.specs.declared.report.Status.{Status}
use Rattle.reports.specs.declared.report.Status.TheVariants as statuses
use Rattle.states.specs.declared.refusal.Refusal.{Refusal}
use Rattle.states.specs.declared.refusal.Refusal.TheVariants as refusals

-- the number that the system is given of a status
abbrev pub number_of : Status → ℕ
number_of statuses.Done = 0
number_of statuses.Refused = 1
number_of statuses.Usage = 2
number_of statuses.NoSolution = 3
number_of statuses.InputRefused = 4
number_of statuses.Fault = 5

-- the line of a refusal
abbrev pub refusal_line : Refusal → List ℕ
refusal_line refusal = text_of_reply (replies.Refused refusal)

-- the text is written and this is the status; or something of it is missing, and the status is that of a fault
abbrev pub IsPrinted : List ℕ → Status → Status → Option (List ℕ) → Option (List ℕ) → Type 0
IsPrinted text wanted status before after = ((status ≡ wanted) × Appends before after text) ⊎ ((status ≡ statuses.Fault) × IsCutOff text before after)

-- the status of words that are no request, and of help and the version, which are printed and no mistake
abbrev pub HasUsageStatus : ErrorKind → List ℕ → Status → Option (List ℕ) → Option (List ℕ) → Type 0
HasUsageStatus kinds.DisplayHelp text status before after = IsPrinted text statuses.Done status before after
HasUsageStatus kinds.DisplayVersion text status before after = IsPrinted text statuses.Done status before after
HasUsageStatus kind text status before after = status ≡ statuses.Usage

-- the status of a batch of which nothing is saved, since this refusal came first: that of a single command that is so refused
abbrev pub status_of_none_saved : Refusal → Status
status_of_none_saved refusals.NoSolution = statuses.NoSolution
status_of_none_saved refusals.OutOfMemory = statuses.Fault
status_of_none_saved refusal = statuses.Refused

-- the status of a stop, by the bytes of the output before and after; an explanation whose reader has closed the output is no mistake; the
-- refusal of a target is one of the words of the call
abbrev pub HasStatus : Stop → Status → Option (List ℕ) → Option (List ℕ) → Type 0
HasStatus (stops.Usage usage) status before after = HasUsageStatus usage.kind (string_bytes usage.text) status before after
HasStatus (stops.Needed option) status before after = status ≡ statuses.Usage
HasStatus (stops.Refused refusals.BadTarget) status before after = status ≡ statuses.Usage
HasStatus (stops.Refused (refusals.DuplicateTarget name)) status before after = status ≡ statuses.Usage
HasStatus (stops.Refused refusals.NoTarget) status before after = status ≡ statuses.Usage
HasStatus (stops.Refused refusals.NoSolution) status before after = IsPrinted (refusal_line refusals.NoSolution) statuses.NoSolution status before after
HasStatus (stops.Refused refusal) status before after = IsPrinted (refusal_line refusal) statuses.Refused status before after
HasStatus (stops.Refuted text) status before after = IsPrinted (string_bytes text) statuses.NoSolution status before after
HasStatus (stops.Explained text) status before after = ((status ≡ statuses.Done) × IsCutOff (string_bytes text) before after) ⊎ IsPrinted (string_bytes text) statuses.NoSolution status before after
HasStatus (stops.NoneSaved refusal) status before after = status ≡ status_of_none_saved refusal
HasStatus (stops.Stale text) status before after = IsPrinted (string_bytes text) statuses.Refused status before after
HasStatus (stops.Uncovered text) status before after = IsPrinted (string_bytes text) statuses.Refused status before after
HasStatus (stops.Input file fault) status before after = status ≡ statuses.InputRefused
HasStatus (stops.NoPlace place) status before after = status ≡ statuses.Usage
HasStatus (stops.NoBeginning beginning cursor) status before after = status ≡ statuses.Usage
HasStatus (stops.NoTarget name) status before after = status ≡ statuses.Usage
HasStatus (stops.Unwritten file) status before after = status ≡ statuses.Fault
HasStatus (stops.Fault fault) status before after = status ≡ statuses.Fault
