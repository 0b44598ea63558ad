-- Laws of the steps, and of what is saved.
use Rattle.std.specs.Prelude.{ℕ, ◌≡◌, List, Some, Result, Ok}
use Rattle.journal.specs.Values.{Edit, Pool, Refusal, State, OutOfMemory}
use Rattle.journal.specs.declared.commands.Reply.{Reply}
use Rattle.journal.specs.declared.commands.Reply.TheVariants.{Done, Refused}
use Rattle.journal.specs.Past.{Past, present}
use Rattle.journal.specs.Changes.{HistoryParts}
use Rattle.journal.specs.Commands.{Asked, Editing, Undoing, Redoing}
use Rattle.journal.specs.Histories.{RunWithChanges}
use Rattle.journal.specs.Steps.{Run, Step}
use Rattle.journal.specs.Locks.{LockTexts}
use Rattle.journal.specs.Opens.{Opens, ToldBy}

-- an undo after an accepted edit gives back the present state before the edit, and its cursor
abbrev pub UndoGivesTheStateBack : Type 0
UndoGivesTheStateBack = (before edited undone : Past) (edit : Edit) (pool : Pool) (k j : ℕ) → Step before (Editing edit pool) (Done k) edited → Step edited Undoing (Done j) undone → (present undone ≡ present before) × (j ≡ before.cursor)

-- a redo after that undo gives the history that the edit gave, and its reply
abbrev pub RedoGivesTheEditAgain : Type 0
RedoGivesTheEditAgain = (before edited undone redone : Past) (edit : Edit) (pool : Pool) (k j i : ℕ) → Step before (Editing edit pool) (Done k) edited → Step edited Undoing (Done j) undone → Step undone Redoing (Done i) redone → (redone ≡ edited) × (i ≡ k)

-- after an accepted edit an undo is refused for want of memory alone
abbrev pub AnEditCanBeUndone : Type 0
AnEditCanBeUndone = (before edited after : Past) (edit : Edit) (pool : Pool) (k : ℕ) (refusal : Refusal) → Step before (Editing edit pool) (Done k) edited → Step edited Undoing (Refused refusal) after → refusal ≡ OutOfMemory

-- a run with its changes is a run: replies, states and cursor are those of one
abbrev pub ARunWithChangesIsARun : Type 0
ARunWithChangesIsARun = (old new : HistoryParts) (asked : List Asked) (replies : List Reply) → RunWithChanges old asked replies new → Run old.past asked replies new.past

-- a requirements file, lock files and a journal stand for one history at most, or have one first fault
abbrev pub FilesStandForOneHistory : Type 0
FilesStandForOneHistory =
    (requirements : List ℕ) (locks : LockTexts) (journal : List ℕ) (one another : Result HistoryParts Refusal) → Opens requirements locks journal one → Opens requirements locks journal another → one ≡ another

-- where files stand for a history, the locks and the journal tell its cursor, its changes and the targets of its present state
abbrev pub WhatOpensIsTold : Type 0
WhatOpensIsTold =
    (requirements : List ℕ) (locks : LockTexts) (journal : List ℕ) (history : HistoryParts) (state : State) → Opens requirements locks journal (Ok history) → present history.past ≡ Some state
    → ToldBy locks journal (Ok (record { cursor = history.past.cursor; changes = history.changes; targets = state.targets }))
