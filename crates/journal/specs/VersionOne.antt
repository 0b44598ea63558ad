-- What version 1 saved of a history. All of it is reqlock's own rule.
use Rattle.std.specs.Prelude.{◌≡◌, ◌^◌, ◌<◌, ℕ, true, List, [], ◌∷◌, Some, length, Ok}
use Rattle.std.specs.List.{AllByRecursion, concat}
use Rattle.std.specs.Str.{is_utf8}
use Rattle.markers.specs.Environment.{IsEnvironment}
use Rattle.pylock.specs.LockOfTable.{lock_in_text}
use Rattle.states.specs.State.{IsState}
use Rattle.changes.specs.Changes.{ChangeParts}
use Rattle.journal.specs.Values.{State, Target}
use Rattle.journal.specs.Past.{present}
use Rattle.journal.specs.Changes.{AreSteps, HistoryParts}
use Rattle.journal.specs.Opens.{Opens}
use Rattle.journal.specs.Saved.{IsLockFile, header_for, stay_all, target_for}
use Rattle.journal_format.specs.VersionOne.{journal_one}
use Rattle.journal_format.specs.declared.header.Header.{Header}
use Rattle.journal_format.specs.declared.header.JournalVersion.TheVariants.{One}

-- the header of version 1 of a history with this present state, these steps and these files
abbrev pub header_one_for : State → ℕ → List ChangeParts → List ℕ → List ℕ → Header
header_one_for state cursor changes requirements lock = record (header_for state cursor changes requirements (([], lock) ∷ [])) { version = One }

-- the files that version 1 saved of a history whose states have one target, without a name, and none of whose steps has targets: the
-- present lines joined, a file that is read as the target's lock, and a journal that is text, with a number of steps that fits 64 bits
pub record IsSavedByOne (history : HistoryParts) (requirements lock journal : List ℕ) : Type 0 where
  pub state : State
  pub target : Target
  pub state_is : present history.past ≡ Some state
  pub lawful : AllByRecursion IsState history.past.states
  pub steps : AreSteps history.past.states history.changes
  pub one : state.targets ≡ target ∷ []
  pub unnamed : target.name ≡ []
  pub stay : stay_all history.changes ≡ true
  pub environment : IsEnvironment target.environment
  pub requirements_is : requirements ≡ concat state.lines
  pub lock_is : IsLockFile target ([], lock)
  pub lock_reads : lock_in_text lock ≡ Ok target.lock
  pub journal_is : journal ≡ journal_one (header_one_for state history.past.cursor history.changes requirements lock) (target_for target lock) history.changes
  pub text : is_utf8 journal ≡ true
  pub counted : length history.changes < 2 ^ 64

-- what version 1 saved of a history opens as that history
abbrev pub WhatVersionOneSavedOpens : Type 0
WhatVersionOneSavedOpens = (history : HistoryParts) (requirements lock journal : List ℕ) → IsSavedByOne history requirements lock journal → Opens requirements (([], lock) ∷ []) journal (Ok history)
