-- What follows the reading of files. Tied to `Called` and `AtAnyMoment` by the contracts of `step_once`, `edit_once` and `forget_once`; need not be read.
use Rattle.std.specs.Prelude.{◌≡◌, ◌⊎◌, ℕ, Bool, true, List, Option}
use Rattle.commands.specs.Replies.{is_accepted, text_of_reply}
use Rattle.files.specs.Saving.{IsSaving}
use Rattle.files.specs.declared.saved_files.SavedFiles.{SavedFiles}
use Rattle.folder.specs.Calls.{Ran}
use Rattle.folder.specs.Held.{Held}
use Rattle.journal.specs.Changes.{HistoryParts}
use Rattle.journal.specs.Commands.{Asked}
use Rattle.journal.specs.Past.{Past}
use Rattle.journal.specs.declared.commands.Reply.{Reply}
use Rattle.journal.specs.declared.commands.Reply.TheVariants.{Done}
use Rattle.saves.specs.Applied.{GoesOn}
use Rattle.saves.specs.Called.{LeavesFor}

-- nothing is changed; or the history is to be saved, and its save over the files that were read has come so far
abbrev pub IsSavingFor : Bool → SavedFiles → HistoryParts → Held → Held → Type 0
IsSavingFor is_saved files after old new = (new ≡ old) ⊎ ((is_saved ≡ true) × IsSaving files after old new)

-- the command led to a history, and its reply was said and left what it says
pub record IsApplied {F : Type 0} (held : F → Option Held) (may_leave : F → Held → Type 0) (moment : F → ℕ) (left_since : F → ℕ → Held → Type 0) (faults : F → ℕ) (only_if_needed : Bool) (asked : Asked) (files : SavedFiles) (past : Past) (says : List ℕ → Type 0) (old new : F) : Type 0 where
  pub after : HistoryParts
  pub reply : Reply
  pub goes : GoesOn only_if_needed past asked after.past reply
  pub said : says (text_of_reply reply)
  pub ran : Ran held may_leave moment left_since faults (LeavesFor (is_accepted reply) files after) (IsSavingFor (is_accepted reply) files after) old new

-- nothing is changed, or the save of a history that the command leads to has come so far
abbrev pub IsApplying : Bool → Asked → SavedFiles → Past → Held → Held → Type 0
IsApplying only_if_needed asked files past old new =
    (new ≡ old) ⊎ ((after : HistoryParts) × (place : ℕ) × GoesOn only_if_needed past asked after.past (Done place) × IsSaving files after old new)
