-- What the files in the places of a folder stand for, and what opens of them. All of it is reqlock's own rule.
use Rattle.std.specs.Prelude.{◌≡◌, Ok}
use Rattle.folder.specs.Held.{Held}
use Rattle.journal.specs.Changes.{HistoryParts}
use Rattle.journal.specs.Opens.{Opens}
use Rattle.files.specs.JournalLocks.{AreOfJournal}
use Rattle.files.specs.Places.{AreInPlace, FileBytes, StandsFor}

-- the files of a folder stand for one history at most
abbrev pub PlacesStandForOneHistory : Type 0
PlacesStandForOneHistory = (held : Held) (one another : HistoryParts) → StandsFor held one → StandsFor held another → one ≡ another

-- files that stand for a history open as it, where the locks are read that the journal names
abbrev pub WhatStandsIsOpened : Type 0
WhatStandsIsOpened =
    (held : Held) (history : HistoryParts) (files : FileBytes) → StandsFor held history → AreInPlace held files → AreOfJournal files.journal files.locks
    → Opens files.requirements files.locks files.journal (Ok history)
