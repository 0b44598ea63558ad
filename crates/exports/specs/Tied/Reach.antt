-- Which requirements stand for all that lines can ask for.
-- Tied to `CanAsk` by the contract of `asked_by`; need not be read.
use Rattle.std.specs.Prelude.{◌≡◌, ℕ, true, if◌then◌else◌, List, [], ◌∷◌, ◌++◌, Option, Some, None, Result, Ok, Err}
use Rattle.std.specs.List.{Contains, flat_map}
use Rattle.markers.specs.declared.fault.Cause.{Cause}
use Rattle.pep440.specs.Matching.{matches}
use Rattle.pep440.specs.Version.{VersionParts}
use Rattle.pep440.specs.declared.specifier.Clause.{Clause}
use Rattle.pep508.specs.Requirement.{RequirementParts, requirement_of}
use Rattle.snapshot.specs.Packages.{Index, releases_of}
use Rattle.snapshot.specs.Release.{Release}
use Rattle.exports.specs.Alike.{CanAsk}
use Rattle.exports.specs.Tied.Kept.{ClauseFollows}

-- some clause matches no version that the wanted one doesn't
abbrev pub IsFollowed : List Clause → Clause → Type 0
IsFollowed clauses wanted = (clause : Clause) × Contains clauses clause × ClauseFollows clause wanted

-- a requirement on the same name, which matches each version that the other does
pub record IsWider (wide wanted : RequirementParts) : Type 0 where
  pub named : wide.name ≡ wanted.name
  pub matched : (version : VersionParts) → matches wanted.clauses version ≡ true → matches wide.clauses version ≡ true

-- one of the requirements is as wide
abbrev pub IsCovered : List RequirementParts → RequirementParts → Type 0
IsCovered asked wanted = (wide : RequirementParts) × Contains asked wide × IsWider wide wanted

-- what a line asks for, if anything
abbrev pub wanted_in : Result (Option RequirementParts) Cause → List RequirementParts
wanted_in (Ok (Some wanted)) = wanted ∷ []
wanted_in (Ok None) = []
wanted_in (Err cause) = []

abbrev pub wanted_by : List ℕ → List RequirementParts
wanted_by line = wanted_in (requirement_of line)

-- what a release depends on, if its version matches the clauses of a requirement
abbrev pub needs_of : RequirementParts → Release → List RequirementParts
needs_of above release = if matches above.clauses release.version then release.dependencies else []

-- so it is with the releases on the name of a requirement
abbrev pub needs_below : Index → RequirementParts → List RequirementParts
needs_below index above = flat_map (needs_of above) (releases_of above.name index.packages)

-- requirements were put behind others, each of them one of these; all of these are covered then
pub record Gathers (old new wanted : List RequirementParts) : Type 0 where
  pub more : List RequirementParts
  pub added : new ≡ old ++ more
  pub only : (x : RequirementParts) → Contains more x → Contains wanted x
  pub covered : (x : RequirementParts) → Contains wanted x → IsCovered new x

-- what is needed below each of some requirements is covered
abbrev pub CoversBelow : Index → List RequirementParts → List RequirementParts → Type 0
CoversBelow index asked some = (above : RequirementParts) → Contains some above → (x : RequirementParts) → Contains (needs_below index above) x → IsCovered asked x

-- requirements that lines can ask for, as wide as what lines ask for, and as what is needed below some of them
pub record AreAskedTo (lines : List (List ℕ)) (index : Index) (asked some : List RequirementParts) : Type 0 where
  pub counted : (x : RequirementParts) → Contains asked x → CanAsk lines index x
  pub lines_covered : (x : RequirementParts) → Contains (flat_map wanted_by lines) x → IsCovered asked x
  pub below_covered : CoversBelow index asked some

-- and below all of them: so as wide as all that lines can ask for
abbrev pub AreAsked : List (List ℕ) → Index → List RequirementParts → Type 0
AreAsked lines index asked = AreAskedTo lines index asked asked
