-- Whether a lock is one for lines in an environment, as it is decided.
-- Tied to `IsState` by the contract of `State::new`; need not be read.
use Rattle.std.specs.Prelude.{◌≡◌, ◌++◌, ℕ, List, Option, Some, None, [], map}
use Rattle.std.specs.List.{AllByRecursion, Contains, flat_map}
use Rattle.markers.specs.Environment.{Texts}
use Rattle.pep508.specs.Requirement.{RequirementParts, requirement_of}
use Rattle.problems.specs.Problem.{active_in}
use Rattle.pylock.specs.Packages.{EntryParts}
use Rattle.states.specs.State.{IsAnEntry, IsMet, Reached}

-- each of the requirements is met by an entry
abbrev pub AreMet : Texts → List EntryParts → List RequirementParts → Type 0
AreMet environment entries active = AllByRecursion (IsMet environment entries) active

-- what a line asks for, where it is active, is met by an entry
abbrev pub IsLineMet : Texts → List EntryParts → List ℕ → Type 0
IsLineMet environment entries line = AreMet environment entries (active_in environment (requirement_of line))

-- each dependency of an entry is an entry's name
abbrev pub IsClosed : List EntryParts → EntryParts → Type 0
IsClosed entries e = AllByRecursion (IsAnEntry entries) e.dependencies

-- the dependencies of an entry, where there is one
abbrev pub needs_of : Option EntryParts → List (List ℕ)
needs_of None = []
needs_of (Some e) = e.dependencies

-- names with others among them: those that weren't there stand behind
pub record IsGrown (old new asked : List (List ℕ)) : Type 0 where
  pub more : List (List ℕ)
  pub whole : new ≡ old ++ more
  pub from : (name : List ℕ) → Contains more name → Contains asked name
  pub all : (name : List ℕ) → Contains asked name → Contains new name

-- the names that requirements lead to, and perhaps names of no entry
pub record AreReached (active : List RequirementParts) (entries : List EntryParts) (names : List (List ℕ)) : Type 0 where
  pub sound : (name : List ℕ) → Contains names name → Reached active entries name
  pub whole : (name : List ℕ) → Reached active entries name → Contains names name

-- the names that requirements and entries name: no others can be reached
abbrev pub names_met : List RequirementParts → List EntryParts → List (List ℕ)
names_met active entries = map (λ wanted. wanted.name) active ++ flat_map (λ e. e.dependencies) entries
