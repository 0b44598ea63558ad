-- What files are the saved form of a history: a requirements file, a lock file for each target, and a journal. All of it is reqlock's
-- own rule.
use Rattle.std.specs.Prelude.{◌≡◌, ℕ, ◌==◌, Bool, List, [], ◌∷◌, Some, length, Result, Ok, if◌then◌else◌}
use Rattle.std.specs.List.{AllZip, concat, list_all}
use Rattle.sha2.specs.Sha256.{sha256}
use Rattle.toml.specs.Parse.{parse_document}
use Rattle.pylock.specs.Tables.{table_of}
use Rattle.journal.specs.Values.{State, Target, Refusal}
use Rattle.journal.specs.Past.{present}
use Rattle.changes.specs.Changes.{ChangeParts}
use Rattle.journal.specs.Changes.{AreSteps, HistoryParts}
use Rattle.journal_format.specs.Written.{journal_of}
use Rattle.journal.specs.Locks.{LockTexts}
use Rattle.journal.specs.Opens.{Opens}
use Rattle.journal_format.specs.declared.header.Header.{Header}
use Rattle.journal_format.specs.declared.header.HeaderTarget.{HeaderTarget}
use Rattle.journal_format.specs.declared.header.JournalVersion.{JournalVersion}
use Rattle.journal_format.specs.declared.header.JournalVersion.TheVariants.{Three, Two}
use Rattle.journal.specs.declared.saved.Saved.{Saved}

-- a target as a header has it, with the digest of its lock file
abbrev pub target_for : Target → List ℕ → HeaderTarget
target_for target text = record { name = target.name; environment = target.environment; lock = sha256 text }

-- the targets of a state as a header has them, each with its lock file
abbrev pub targets_for : List Target → LockTexts → List HeaderTarget
targets_for [] locks = []
targets_for (target ∷ targets) [] = []
targets_for (target ∷ targets) (lock ∷ locks) = target_for target lock.1 ∷ targets_for targets locks

-- whether no step has targets
abbrev pub stay_all : List ChangeParts → Bool
stay_all changes = list_all (λ change. length change.targets == 0) changes

-- the version in which steps are saved
abbrev pub version_for : List ChangeParts → JournalVersion
version_for changes = if stay_all changes then Two else Three

-- the header of a history with this present state, these steps and these files
abbrev pub header_for : State → ℕ → List ChangeParts → List ℕ → LockTexts → Header
header_for state cursor changes requirements locks = record {
  version = version_for changes;
  cursor = cursor;
  requirements = sha256 requirements;
  steps = length changes;
  targets = targets_for state.targets locks;
}

-- the lock file of a target: a text that is read as the table of its lock
pub record IsLockFile (target : Target) (lock : List ℕ × List ℕ) : Type 0 where
  pub name : lock.0 ≡ target.name
  pub reads : parse_document lock.1 ≡ Some (table_of target.lock)

-- the present lines joined; a lock file for each target, in their order; a header, and a line of compact JSON for each step: the
-- history's own change, a minimal one from each state to the next
pub record IsSaved (history : HistoryParts) (saved : Saved) : Type 0 where
  pub state : State
  pub state_is : present history.past ≡ Some state
  pub steps : AreSteps history.past.states history.changes
  pub requirements : saved.requirements ≡ concat state.lines
  pub locks : AllZip IsLockFile state.targets saved.locks.entries
  pub journal :
      saved.journal ≡ journal_of (header_for state history.past.cursor history.changes saved.requirements saved.locks.entries) history.changes

-- the files stand for this history with its changes, and for nothing else
pub record OpensAs (history : HistoryParts) (saved : Saved) : Type 0 where
  pub opens : Opens saved.requirements saved.locks.entries saved.journal (Ok history)
  pub alone : (answer : Result HistoryParts Refusal) → Opens saved.requirements saved.locks.entries saved.journal answer → answer ≡ Ok history
