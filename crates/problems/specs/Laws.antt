-- Laws of admission, and of solutions that keep versions.
use Rattle.std.specs.Prelude.{◌≡◌, ◌↔◌, ℕ, Bool, true, false, List, Option, Some, is_some}
use Rattle.std.specs.Map.{lookup}
use Rattle.std.specs.Str.{bytes_eq}
use Rattle.pep440.specs.Version.{VersionParts}
use Rattle.pep508.specs.Requirement.{RequirementParts}
use Rattle.problems.specs.Admission.{admits}
use Rattle.problems.specs.Problem.{ProblemParts}
use Rattle.problems.specs.Rules.{kept_version, rules_of, same_version}
use Rattle.problems.specs.declared.node.Node.{Node}
use Rattle.search.specs.Solutions.{IsBest, Needed, Solution as IsSolution}

-- the same problem with these versions kept, alone or before others
abbrev pub keeping : ProblemParts → List (List ℕ × VersionParts) → Bool → ProblemParts
keeping given kept only = record { active = given.active; environment = given.environment; index = given.index; kept = kept; only_kept = only }

-- what a requirement admits is the same whatever versions are kept, alone or before others
abbrev pub AdmissionForgetsKeptVersions : Type 0
AdmissionForgetsKeptVersions = (given : ProblemParts) (kept : List (List ℕ × VersionParts)) (only : Bool) (wanted : RequirementParts) (version : VersionParts) → admits (keeping given kept only) wanted version ≡ admits given wanted version

-- the same problem in which no other version counts beside a kept one, and in which others do
abbrev pub alone : ProblemParts → ProblemParts
alone given = keeping given given.kept true

abbrev pub preferred : ProblemParts → ProblemParts
preferred given = keeping given given.kept false

-- where they have a name for which a version is kept, the versions have that of the release that is kept
abbrev pub KeepsAll : ProblemParts → (List ℕ → Option VersionParts) → Type 0
KeepsAll given s = (name : List ℕ) (version : VersionParts) → s name ≡ Some version → is_some (lookup (bytes_eq name) given.kept) ≡ true → kept_version given name ≡ Some version

-- where no other version counts beside a kept one, solutions are those that keep all
abbrev pub SolutionsKeepAll : Type 0
SolutionsKeepAll = (given : ProblemParts) (s : List ℕ → Option VersionParts) → IsSolution (rules_of (alone given)) s ↔ (IsSolution (rules_of (preferred given)) s × KeepsAll given s)

-- the best solution is the best of these too, where it keeps all
abbrev pub BestKeepsAll : Type 0
BestKeepsAll = (given : ProblemParts) (s : List ℕ → Option VersionParts) → IsBest (rules_of (preferred given)) s → KeepsAll given s → IsBest (rules_of (alone given)) s

-- which nodes are needed with chosen versions is the same whatever versions are kept, alone or before others
abbrev pub NeedsForgetKeptVersions : Type 0
NeedsForgetKeptVersions = (given : ProblemParts) (kept : List (List ℕ × VersionParts)) (only : Bool) (chosen : List ℕ → Option VersionParts) (node : Node)
    → Needed (rules_of (keeping given kept only)) chosen node ↔ Needed (rules_of given) chosen node

-- the version of the release that is kept is the one that is kept, perhaps spelled otherwise
abbrev pub AKeptVersionIsThatOfItsRelease : Type 0
AKeptVersionIsThatOfItsRelease = (given : ProblemParts) (name : List ℕ) (kept version : VersionParts) → lookup (bytes_eq name) given.kept ≡ Some kept → kept_version given name ≡ Some version → same_version kept version ≡ true
