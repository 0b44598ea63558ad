-- What is the same wherever the answers are. All of it is reqlock's own rule.
use Rattle.std.specs.Prelude.{◌↔◌, ℕ, Bool, List, Option}
use Rattle.markers.specs.Environment.{Texts, marker_text}
use Rattle.pep440.specs.Version.{VersionParts}
use Rattle.problems.specs.Problem.{ProblemParts, requirements}
use Rattle.problems.specs.Rules.{rules_of}
use Rattle.pylock.specs.Locks.{LockParts}
use Rattle.pylock.specs.Packages.{EntryParts}
use Rattle.search.specs.Solutions.{IsBest}
use Rattle.snapshot.specs.Packages.{Index}
use Rattle.states.specs.Locks.{IsEntry, IsLockOf}
use Rattle.exports.specs.Alike.{AnswersAlike}

-- what a lock is made of beside its environment: lines, an index, the versions that are kept, and whether none counts beside them
pub record Asking : Type 0 where
  pub lines : List (List ℕ)
  pub index : Index
  pub kept : List (List ℕ × VersionParts)
  pub only_kept : Bool

-- the problem in an environment
abbrev pub problem_in : Asking → Texts → ProblemParts
problem_in asking environment = record {
  active = requirements environment asking.lines;
  environment = environment;
  index = asking.index;
  kept = asking.kept;
  only_kept = asking.only_kept;
}

-- two problems have the same best solution, and of it the same is locked for each name: what its release asks of Python, which packages
-- it needs, and its files
abbrev pub LockAlike : ProblemParts → ProblemParts → (List ℕ → Option VersionParts) → Type 0
LockAlike given other s = (IsBest (rules_of given) s ↔ IsBest (rules_of other) s) × (IsBest (rules_of given) s → (e : EntryParts) → IsEntry given s e ↔ IsEntry other s e)

-- the best solution of lines over an index is the same in both environments, with all that is locked of it, whatever versions are kept,
-- alone or before others
abbrev pub HasSameBest : List (List ℕ) → Index → Texts → Texts → Type 0
HasSameBest lines index environment other = (kept : List (List ℕ × VersionParts)) (only : Bool) (s : List ℕ → Option VersionParts)
    → LockAlike (problem_in (record { lines = lines; index = index; kept = kept; only_kept = only }) environment)
    (problem_in (record { lines = lines; index = index; kept = kept; only_kept = only }) other) s

-- environments that answer alike have the same best solution
abbrev pub BestIsTheSame : Type 0
BestIsTheSame = (lines : List (List ℕ)) (index : Index) (environment other : Texts) → AnswersAlike lines index environment other → HasSameBest lines index environment other

-- a lock of lines over an index is one in the other environment too, but for the text that names its environment: the packages with their
-- files, the names that they need and what they ask of Python are the same, whatever versions are kept, alone or before others
abbrev pub HasSameLock : List (List ℕ) → Index → Texts → Texts → Type 0
HasSameLock lines index environment other = (kept : List (List ℕ × VersionParts)) (only : Bool) (lock : LockParts)
    → IsLockOf (problem_in (record { lines = lines; index = index; kept = kept; only_kept = only }) environment) lock
    → IsLockOf (problem_in (record { lines = lines; index = index; kept = kept; only_kept = only }) other) (record lock { environment = marker_text other })

-- environments that answer alike have the same locks
abbrev pub LockIsTheSame : Type 0
LockIsTheSame = (lines : List (List ℕ)) (index : Index) (environment other : Texts) → AnswersAlike lines index environment other → HasSameLock lines index environment other
