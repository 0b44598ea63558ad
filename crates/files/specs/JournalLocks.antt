-- The locks that a journal names. All of it is reqlock's own rule.
use Rattle.std.specs.Prelude.{◌≡◌, ◌⊎◌, ℕ, List, [], Some, is_some, Ok, Err}
use Rattle.states.specs.declared.refusal.Refusal.TheVariants.{JournalBroken}
use Rattle.journal.specs.Locks.{LockTexts, lock_at}
use Rattle.journal.specs.Opens.{NamesTargets}
use Rattle.files.specs.TargetLocks.{is_among}

-- a journal names these targets; a broken one names none
abbrev pub Names : List ℕ → List (List ℕ) → Type 0
Names journal names = NamesTargets journal (Ok names) ⊎ ((names ≡ []) × (line : ℕ) × NamesTargets journal (Err (JournalBroken line)))

-- a lock is there of each of these names, and of no other
abbrev pub HaveNames : LockTexts → List (List ℕ) → Type 0
HaveNames locks names = (name : List ℕ) → is_some (lock_at locks name) ≡ is_among names name

-- the locks are those that a journal names
pub record AreOfJournal (journal : List ℕ) (locks : LockTexts) : Type 0 where
  pub names : List (List ℕ)
  pub named : Names journal names
  pub have : HaveNames locks names

-- the lock files of one name have the same bytes
abbrev pub AreOneByName : LockTexts → LockTexts → Type 0
AreOneByName locks more = (name one other : List ℕ) → lock_at locks name ≡ Some one → lock_at more name ≡ Some other → one ≡ other
