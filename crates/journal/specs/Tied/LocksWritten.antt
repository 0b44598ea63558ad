-- The lock files of a state's targets, as they are put together.
-- Tied to `IsSaved` and `OpensAs` by the contract of `Session::save`; need not be read.
use Rattle.std.specs.Prelude.{◌≡◌, ℕ, true, List, [], ◌∷◌, ◌++◌, Ok}
use Rattle.std.specs.BTreeMap.{insert_entry}
use Rattle.std.specs.Cmp.Lexicographic.{slice_cmp}
use Rattle.std.specs.List.{AllZip}
use Rattle.std.specs.Ordering.{nat_cmp}
use Rattle.markers.specs.Environment.{IsEnvironment}
use Rattle.states.specs.TargetNames.{is_target_name}
use Rattle.pylock.specs.LockOfTable.{lock_in_text}
use Rattle.journal.specs.Values.{Target}
use Rattle.journal.specs.Saved.{IsLockFile, target_for, targets_for}
use Rattle.journal.specs.declared.saved.Locked.{Locked}

-- the lock file of a target, which is read as its lock again
pub record IsWrittenLock (target : Target) (lock : List ℕ × List ℕ) : Type 0 where
  pub file : IsLockFile target lock
  pub reads : lock_in_text lock.1 ≡ Ok target.lock

-- what holds of a target anyway
pub record IsLawfulTarget (target : Target) : Type 0 where
  pub name : is_target_name target.name ≡ true
  pub environment : IsEnvironment target.environment

-- the lock file of a target more, and the target as a header has it
pub record IsInserted (target : Target) (old new : Locked) : Type 0 where
  pub text : List ℕ
  pub written : IsWrittenLock target (target.name, text)
  pub locks : new.locks.entries ≡ insert_entry (slice_cmp nat_cmp) old.locks.entries target.name text
  pub targets : new.targets ≡ old.targets ++ target_for target text ∷ []

-- the lock files of targets, and the targets as a header has them
pub record AreLocked (targets : List Target) (locked : Locked) : Type 0 where
  pub files : AllZip IsWrittenLock targets locked.locks.entries
  pub targets_are : locked.targets ≡ targets_for targets locked.locks.entries
