-- What a stopped save leaves can be completed by the next call. All of it is reqlock's own rule.
use Rattle.std.specs.Prelude.{◌≡◌, true}
use Rattle.folder.specs.Held.{Held}
use Rattle.journal.specs.Changes.{HistoryParts}
use Rattle.files.specs.Beside.{has_requirements}
use Rattle.files.specs.Completed.{AreLocksToldApart, CanBeCompleted, IsBeyondRepair, StaysCompletable}
use Rattle.files.specs.Places.{AreKnown, StandsFor, bytes_read}
use Rattle.power_cuts.specs.Stopped.{IsStopped}

-- what a stopped save leaves can be completed, where the old requirements file is that of a state of the new history, as behind each command: the files that
-- were read stood in their places, or their journal counted as empty
abbrev pub AStoppedSaveCanBeCompleted : Type 0
AStoppedSaveCanBeCompleted =
    (history next : HistoryParts) (left : Held) (stopped : IsStopped history next left) → AreKnown stopped.old (bytes_read stopped.files)
    → has_requirements next.past.states stopped.stood.files.requirements ≡ true → CanBeCompleted left

-- so can a folder whose files stand for a history in their places
abbrev pub WhatStandsCanBeCompleted : Type 0
WhatStandsCanBeCompleted = (held : Held) (history : HistoryParts) → StandsFor held history → CanBeCompleted held

-- so no call finds it beyond repair, whatever calls before have left of it, if its locks are told apart
abbrev pub AStoppedSaveIsNotRefused : Type 0
AStoppedSaveIsNotRefused =
    (history next : HistoryParts) (left now : Held) (stopped : IsStopped history next left) → AreKnown stopped.old (bytes_read stopped.files)
    → has_requirements next.past.states stopped.stood.files.requirements ≡ true → StaysCompletable left now → AreLocksToldApart now → IsBeyondRepair now → ⊥
