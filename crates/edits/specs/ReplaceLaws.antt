-- Laws of edits that replace the lines, and of versions that are kept.
use Rattle.std.specs.Prelude.{◌≡◌, ◌↔◌, ℕ, List, [], map, Option, Some, None, Result}
use Rattle.std.specs.List.{AllZip}
use Rattle.changes.specs.Changes.{IsSameTarget}
use Rattle.pep440.specs.Version.{VersionParts}
use Rattle.problems.specs.Problem.{ProblemParts}
use Rattle.problems.specs.Rules.{kept_version, rules_of}
use Rattle.problems.specs.Solutions.{version_for}
use Rattle.pylock.specs.Locks.{LockParts}
use Rattle.search.specs.Solutions.{Solution as IsSolution}
use Rattle.states.specs.Locks.{IsLockOf, versions_of}
use Rattle.states.specs.Pool.{PoolParts}
use Rattle.states.specs.State.{IsState}
use Rattle.states.specs.StateParts.{StateParts}
use Rattle.states.specs.declared.refusal.Refusal.{Refusal}
use Rattle.states.specs.declared.target.Target.{Target}
use Rattle.edits.specs.Edits.{EditResult, Locks, problems_after}
use Rattle.edits.specs.declared.pins.TargetPins.{TargetPins}
use Rattle.edits.specs.declared.request.Edit.TheVariants.{Relock, Replace}

-- the locks of targets as pins, to be handed in elsewhere
abbrev pub pins_of : List Target → List TargetPins
pins_of targets = map (λ t. record { target = t.name; versions = versions_of t.lock.entries }) targets

-- A merge doesn't depend on where one stands: of two states with the same targets, the lines of the one are replaced with the locks of
-- the other as pins, and those of the other with the locks of the one. What the same new lines are locked as is the same, and so is that
-- they can't be.
abbrev pub MergesAgree : Type 0
MergesAgree =
    (one other : StateParts) (lines : List (List ℕ)) (pool : PoolParts) (answer : Result StateParts Refusal) → IsState one → IsState other → AllZip IsSameTarget one.targets other.targets
    → Locks None (problems_after one (Replace lines (pins_of other.targets)) pool) lines answer ↔ Locks None (problems_after other (Replace lines (pins_of one.targets)) pool) lines answer

-- the file's own lines in the place of its lines, with no pins handed in, are a relock
abbrev pub ReplacingLinesByThemselvesIsARelock : Type 0
ReplacingLinesByThemselvesIsARelock =
    (state : StateParts) (pool : PoolParts) (answer : Result StateParts Refusal) → IsState state
    → EditResult state (Replace state.lines []) pool answer ↔ EditResult state Relock pool answer

-- each of these versions is kept: that of the index's release that equals it
abbrev pub AreKept : ProblemParts → (List ℕ → Option VersionParts) → Type 0
AreKept given chosen = (name : List ℕ) (version : VersionParts) → chosen name ≡ Some version → kept_version given name ≡ Some version

-- Where kept versions are a solution, the lock has these and no others.
abbrev pub KeptVersionsThatFitStay : Type 0
KeptVersionsThatFitStay =
    (given : ProblemParts) (lock : LockParts) (chosen : List ℕ → Option VersionParts) → IsLockOf given lock → IsSolution (rules_of given) chosen → AreKept given chosen
    → (name : List ℕ) → version_for (versions_of lock.entries) name ≡ chosen name
