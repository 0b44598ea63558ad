-- One lock file for several targets (PEP 751). Which conditions are told is reqlock's own rule.
use Rattle.std.specs.Prelude.{◌≡◌, ◌≢◌, ◌↔◌, ◌⊎◌, ⊤, ℕ, Bool, true, false, List, [], None, Result, Ok, Err}
use Rattle.std.specs.List.{Contains}
use Rattle.std.specs.Option.{option_map_or}
use Rattle.markers.specs.Environment.{IsEnvironment, Texts}
use Rattle.markers.specs.Marker.{Tree, holds, marker_of}
use Rattle.markers.specs.declared.fault.Cause.{Cause}
use Rattle.pylock.specs.Packages.{EntryParts}
use Rattle.pylock.specs.declared.joint.JointLock.{JointLock}
use Rattle.pylock.specs.declared.joint.JointPackage.{JointPackage}
use Rattle.snapshot.specs.Packages.{Index}
use Rattle.states.specs.declared.target.Target.{Target}
use Rattle.exports.specs.Conditions.{IsMarkerOf, MeetsAll}
use Rattle.exports.specs.Laws.{HasSameLock}
use Rattle.exports.specs.Questions.{AnswerEachAlike, AnswerOneApart}
use Rattle.exports.specs.declared.condition.Condition.{Condition}
use Rattle.exports.specs.declared.joint.JointFault.{JointFault}
use Rattle.exports.specs.declared.joint.JointFault.TheVariants as faults

-- a marker that was read holds in an environment, without an extra
abbrev pub is_held : Texts → Result Tree Cause → Bool
is_held environment (Ok marker) = holds marker environment None
is_held environment (Err cause) = false

-- an installer takes a package: it has no marker, or one that holds (PEP 751, "packages.marker")
abbrev pub is_taken : Texts → JointPackage → Bool
is_taken environment p = option_map_or (λ text. is_held environment (marker_of text)) p.marker true

-- some package with this entry is taken
pub record Takes (environment : Texts) (packages : List JointPackage) (e : EntryParts) : Type 0 where
  pub chosen : JointPackage
  pub there : Contains packages chosen
  pub taken : is_taken environment chosen ≡ true
  pub entry : chosen.entry ≡ e

-- the packages that are taken have exactly these entries
abbrev pub TakesExactly : Texts → List JointPackage → List EntryParts → Type 0
TakesExactly environment packages entries = (e : EntryParts) → Takes environment packages e ↔ Contains entries e

-- a text of `environments` is that of a target: its marker holds in exactly the environments that meet some conditions, the target's own
-- among them; there the target's lock is a lock too, and its entries are those that are taken
pub record IsMarkedBy (lines : List (List ℕ)) (index : Index) (packages : List JointPackage) (target : Target) (text : List ℕ) : Type 0 where
  pub conditions : List Condition
  pub own : MeetsAll target.environment target.environment conditions
  pub marker : IsMarkerOf target.environment conditions text
  pub alike : (other : Texts) → MeetsAll target.environment other conditions → HasSameLock lines index target.environment other
  pub exact : (other : Texts) → IsEnvironment other → MeetsAll target.environment other conditions → TakesExactly other packages target.lock.entries

-- a target is told: by a text of `environments`, or, if there is none, each environment takes its entries
abbrev pub IsTold : List (List ℕ) → Index → JointLock → Target → Type 0
IsTold lines index joint target = ((text : List ℕ) × Contains joint.environments text × IsMarkedBy lines index joint.packages target text)
    ⊎ ((joint.environments ≡ []) × ((other : Texts) → IsEnvironment other → TakesExactly other joint.packages target.lock.entries))

-- a text of `environments` is one of these targets'
abbrev pub IsOfSome : List (List ℕ) → Index → JointLock → List Target → List ℕ → Type 0
IsOfSome lines index joint targets text = (target : Target) × Contains targets target × IsMarkedBy lines index joint.packages target text

-- the lock of one of the targets is a lock in every environment
abbrev pub IsAnywhere : List (List ℕ) → Index → List Target → Type 0
IsAnywhere lines index targets = (target : Target) × Contains targets target × ((other : Texts) → HasSameLock lines index target.environment other)

-- where a marker holds a lock of the environment is one too
abbrev pub IsSameWhere : List (List ℕ) → Index → Texts → Tree → Type 0
IsSameWhere lines index environment marker = (other : Texts) → IsEnvironment other → holds marker other None ≡ true → HasSameLock lines index environment other

-- two targets may stand in one lock: they have the same entries, or some question that counts has two answers
abbrev pub Fit : List (List ℕ) → Index → Target → Target → Type 0
Fit lines index one other = (one.lock.entries ≡ other.lock.entries) ⊎ AnswerOneApart lines index one.environment other.environment

-- they may not: their entries differ, and each question that counts has one answer
abbrev pub Clash : List (List ℕ) → Index → Target → Target → Type 0
Clash lines index one other = (one.lock.entries ≢ other.lock.entries) × AnswerEachAlike lines index one.environment other.environment

-- two targets with these names clash
pub record DoClash (lines : List (List ℕ)) (index : Index) (targets : List Target) (one other : List ℕ) : Type 0 where
  pub first : Target
  pub second : Target
  pub first_there : Contains targets first
  pub second_there : Contains targets second
  pub first_named : first.name ≡ one
  pub second_named : second.name ≡ other
  pub clash : Clash lines index first second

-- why targets are refused: memory, or two that clash
abbrev pub IsRefused : List (List ℕ) → Index → List Target → JointFault → Type 0
IsRefused lines index targets faults.OutOfMemory = ⊤
IsRefused lines index targets (faults.Differ one other) = DoClash lines index targets one other
