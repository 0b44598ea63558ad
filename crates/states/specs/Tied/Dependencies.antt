-- The names of other packages that a package needs, as they are gathered node by node.
-- Tied to `IsLockOf` by the contract of `locked`; need not be read.
use Rattle.std.specs.Prelude.{ℕ, ◌&&◌, not, Bool, List, [], map, filter, Option, Some, None, option_and_then, if◌then◌else◌}
use Rattle.std.specs.BTreeMap.{BTreeMap, get}
use Rattle.std.specs.BTreeSet.{BTreeSet}
use Rattle.std.specs.Cmp.Lexicographic.{slice_cmp}
use Rattle.std.specs.List.{flat_map}
use Rattle.std.specs.Ordering.{nat_cmp}
use Rattle.std.specs.Str.{bytes_eq}
use Rattle.pep440.specs.Version.{VersionParts}
use Rattle.pep508.specs.Requirement.{RequirementParts}
use Rattle.markers.specs.Environment.{Texts}
use Rattle.snapshot.specs.Release.{Release}
use Rattle.problems.specs.Admission.{release_at}
use Rattle.problems.specs.Problem.{ProblemParts}
use Rattle.problems.specs.Rules.{counts}
use Rattle.problems.specs.Tied.OwnNeeds.{own_wants_of}
use Rattle.problems.specs.declared.node.Node.{Node}

-- whether a dependency counts at a node and is on another name than the node
abbrev pub leads_away : Texts → Node → RequirementParts → Bool
leads_away environment node wanted = counts environment node.extra wanted && not (bytes_eq node.name wanted.name)

-- the names of the dependencies that lead away from a node
abbrev pub names_wanted : Texts → Node → List RequirementParts → List (List ℕ)
names_wanted environment node dependencies = map (λ wanted. wanted.name) (filter (leads_away environment node) dependencies)

-- the names that a release needs at a node by what the node wants of its own, where there is a release
abbrev pub names_needed : Texts → Node → Option Release → List (List ℕ)
names_needed environment node None = []
names_needed environment node (Some release) = names_wanted environment node (own_wants_of environment node.extra release.dependencies)

-- the release of the version that is chosen for a name
abbrev pub release_chosen : ProblemParts → (List ℕ → Option VersionParts) → List ℕ → Option Release
release_chosen given chosen name = option_and_then (release_at given name) (chosen name)

-- the names that a package needs at a node: none where the node is another's
abbrev pub names_at : ProblemParts → (List ℕ → Option VersionParts) → List ℕ → Node → List (List ℕ)
names_at given chosen own node = if bytes_eq own node.name then names_needed given.environment node (release_chosen given chosen node.name) else []

-- the names that a package needs at nodes
abbrev pub names_over : ProblemParts → (List ℕ → Option VersionParts) → List ℕ → List Node → List (List ℕ)
names_over given chosen own nodes = flat_map (names_at given chosen own) nodes

-- the names of a set, where there is one
abbrev pub names_of : Option (BTreeSet (List ℕ)) → List (List ℕ)
names_of None = []
names_of (Some names) = names.keys

-- the names that are gathered for a package
abbrev pub names_in : BTreeMap (List ℕ) (BTreeSet (List ℕ)) → List ℕ → List (List ℕ)
names_in gathered own = names_of (get (slice_cmp nat_cmp) gathered own)
