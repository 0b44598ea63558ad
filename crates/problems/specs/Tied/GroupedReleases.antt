-- Dependencies that are grouped by extras, of releases.
-- Tied to `wants` by the contracts of `NodeWants::at` and `ReleaseWants::at`; need not be read.
use Rattle.std.specs.Prelude.{◌≡◌, ℕ, List, Some, map}
use Rattle.std.specs.BTreeMap.{BTreeMap, get}
use Rattle.std.specs.Cmp.Lexicographic.{slice_cmp}
use Rattle.std.specs.Ordering.{nat_cmp}
use Rattle.problems.specs.Admission.{dependencies_at}
use Rattle.problems.specs.Problem.{ProblemParts, releases_on}
use Rattle.problems.specs.Tied.ByExtra.{Depending}
use Rattle.problems.specs.declared.node_wants.GroupedRelease.{GroupedRelease}

-- the dependencies are those of the release of the name with the version
abbrev pub IsOfItsRelease : ProblemParts → List ℕ → GroupedRelease → Type 0
IsOfItsRelease given name grouped = grouped.by_extra ≡ record { environment = given.environment; dependencies = dependencies_at given name grouped.version }

-- and so of each name
abbrev pub AreOfTheirReleases : ProblemParts → BTreeMap (List ℕ) GroupedRelease → Type 0
AreOfTheirReleases given by_name = (name : List ℕ) (grouped : GroupedRelease) → get (slice_cmp nat_cmp) by_name name ≡ Some grouped → IsOfItsRelease given name grouped

-- the dependencies of each release of a name
abbrev pub grouped_on : ProblemParts → List ℕ → List Depending
grouped_on given name = map (λ release. record { environment = given.environment; dependencies = release.dependencies }) (releases_on given name)

-- the dependencies that are there for names are those of their releases
abbrev pub AreOfTheirNames : ProblemParts → BTreeMap (List ℕ) (List Depending) → Type 0
AreOfTheirNames given by_name = (name : List ℕ) (groups : List Depending) → get (slice_cmp nat_cmp) by_name name ≡ Some groups → groups ≡ grouped_on given name
