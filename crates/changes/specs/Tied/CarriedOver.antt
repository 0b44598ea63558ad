-- What carries over from a state to the one that a change makes of it, as it is decided.
-- Tied to `Leads` by the contracts of `Change::apply` and `MovingState::along`; need not be read.
use Rattle.std.specs.Prelude.{◌≡◌, ℕ, List, option_map}
use Rattle.std.specs.List.{AllByRecursion, Contains}
use Rattle.markers.specs.Environment.{Texts}
use Rattle.pep508.specs.Requirement.{RequirementParts, requirement_of}
use Rattle.problems.specs.Problem.{active_in, requirements}
use Rattle.pylock.specs.Packages.{EntryParts}
use Rattle.states.specs.State.{IsMet, Reached}
use Rattle.states.specs.Tied.LockForLines.{IsClosed, IsLineMet}
use Rattle.states.specs.declared.target.Target.{Target}
use Rattle.changes.specs.Changes.{changes_on}
use Rattle.changes.specs.declared.change.parts.EntryChange.{EntryChange}

-- the new entry of a change needs what the old one needs, or there is neither
abbrev pub KeepsNeeds : EntryChange → Type 0
KeepsNeeds change = option_map (λ (e : EntryParts). e.dependencies) change.new ≡ option_map (λ (e : EntryParts). e.dependencies) change.old

-- a requirement is on the name
abbrev pub IsAskedBy : List RequirementParts → List ℕ → Type 0
IsAskedBy active name = (wanted : RequirementParts) × Contains active wanted × (wanted.name ≡ name)

-- what a line asks for, where it is active, an active one of these lines asks for too
abbrev pub KeepsName : Texts → List (List ℕ) → List ℕ → Type 0
KeepsName environment lines line =
    (wanted : RequirementParts) → Contains (active_in environment (requirement_of line)) wanted → IsAskedBy (requirements environment lines) wanted.name

-- the same of what some lines ask for in the environment of a target
abbrev pub KeepNames : List (List ℕ) → List (List ℕ) → Target → Type 0
KeepNames lines some target = AllByRecursion (KeepsName target.environment lines) some

-- one of the changes is on the name
abbrev pub IsChanged : List EntryChange → List ℕ → Type 0
IsChanged changes name = (change : EntryChange) × Contains changes change × (change.name ≡ name)

-- what a line asks for, where it is active and on the name of a change, is met by an entry
abbrev pub IsChangedMet : Texts → List EntryParts → List EntryChange → List ℕ → Type 0
IsChangedMet environment entries changes line =
    (wanted : RequirementParts) → Contains (active_in environment (requirement_of line)) wanted → IsChanged changes wanted.name → IsMet environment entries wanted

-- the lock of a target meets lines that were put in, and of all lines those on the names of its changes
pub record AreTouchedMet (changes : List EntryChange) (put lines : List (List ℕ)) (target : Target) : Type 0 where
  pub put_in : AllByRecursion (IsLineMet target.environment target.lock.entries) put
  pub changed : AllByRecursion (IsChangedMet target.environment target.lock.entries (changes_on target.name changes)) lines

-- the lock of a target meets lines
abbrev pub AreAllMet : List (List ℕ) → Target → Type 0
AreAllMet lines target = AllByRecursion (IsLineMet target.environment target.lock.entries) lines

-- each dependency of an entry of a target's lock is an entry's name, and each entry is reached from the lines
pub record IsReachedFrom (lines : List (List ℕ)) (target : Target) : Type 0 where
  pub closed : AllByRecursion (IsClosed target.lock.entries) target.lock.entries
  pub reached : AllByRecursion (λ (e : EntryParts). Reached (requirements target.environment lines) target.lock.entries e.name) target.lock.entries
