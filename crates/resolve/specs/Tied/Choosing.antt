-- The first candidate of a name that some requirements admit.
-- Tied to `IsBest` by the contract of `first_walk`; need not be read.
use Rattle.std.specs.Prelude.{◌≡◌, ℕ, true, false, List, ◌∷◌, ◌++◌}
use Rattle.std.specs.List.{Contains, list_all}
use Rattle.pep440.specs.Version.{VersionParts}
use Rattle.pep508.specs.Requirement.{RequirementParts}
use Rattle.problems.specs.Admission.{admits}
use Rattle.problems.specs.Problem.{ProblemParts, releases_on}
use Rattle.problems.specs.Rules.{versions_of}

-- one of the requirements doesn't admit the version
abbrev pub IsRefusedBy : ProblemParts → List RequirementParts → VersionParts → Type 0
IsRefusedBy given asks version = (wanted : RequirementParts) × Contains asks wanted × (admits given wanted version ≡ false)

-- all admit the version, and none that is newer
pub record IsNewest (given : ProblemParts) (name : List ℕ) (asks : List RequirementParts) (version : VersionParts) : Type 0 where
  pub front : List VersionParts
  pub back : List VersionParts
  pub listed : versions_of (releases_on given name) ≡ front ++ version ∷ back
  pub once : Contains back version → ⊥
  pub before : (w : VersionParts) → Contains front w → IsRefusedBy given asks w
  pub admitted : list_all (λ wanted. admits given wanted version) asks ≡ true
