-- The rules that a problem stands for.
use Rattle.std.specs.Prelude.{ℕ, ◌&&◌, not, Bool, true, List, [], ◌∷◌, map, filter, Option, Some, None, is_some, if◌then◌else◌}
use Rattle.std.specs.Cmp.Lexicographic.{slice_cmp}
use Rattle.std.specs.Map.{lookup}
use Rattle.std.specs.Option.{option_and_then, option_map, option_map_or, option_to_list}
use Rattle.std.specs.Ordering.{is_eq, nat_cmp}
use Rattle.std.specs.Str.{bytes_eq}
use Rattle.pep440.specs.Order.{version_cmp}
use Rattle.pep440.specs.Version.{VersionParts}
use Rattle.pep508.specs.Requirement.{RequirementParts}
use Rattle.markers.specs.Environment.{Texts}
use Rattle.markers.specs.Marker.{Tree, holds}
use Rattle.search.specs.Rules.{Rules}
use Rattle.snapshot.specs.Release.{Release}
use Rattle.problems.specs.Admission.{admits, release_at}
use Rattle.problems.specs.Problem.{ProblemParts, releases_on}
use Rattle.problems.specs.declared.node.Node.{Node}

-- a name with no extra
abbrev pub bare : List ℕ → Node
bare name = record { name = name; extra = None }

abbrev pub with_extra : List ℕ → List ℕ → Node
with_extra name extra = record { name = name; extra = Some extra }

-- the nodes that a requirement needs: its name with no extra, and with each extra that it asks for
abbrev pub nodes_of : RequirementParts → List Node
nodes_of wanted = bare wanted.name ∷ map (with_extra wanted.name) wanted.extras

-- whether a marker that may be there holds with an extra or none
abbrev pub applies_with : Texts → Option (List ℕ) → Option Tree → Bool
applies_with environment extra None = true
applies_with environment extra (Some tree) = holds tree environment extra

-- whether a dependency counts where its release is asked for with an extra or none
abbrev pub counts : Texts → Option (List ℕ) → RequirementParts → Bool
counts environment extra wanted = applies_with environment extra wanted.marker

-- the dependencies of a release that count there
abbrev pub wants_of : Texts → Option (List ℕ) → Release → List RequirementParts
wants_of environment extra release = filter (counts environment extra) release.dependencies

-- the dependencies that count at a node, of the release with that version
abbrev pub wants : ProblemParts → Node → VersionParts → List RequirementParts
wants given node version = option_map_or (wants_of given.environment node.extra) (release_at given node.name version) []

-- versions are one where neither is less
abbrev pub same_version : VersionParts → VersionParts → Bool
same_version v w = is_eq (version_cmp v w)

-- the versions of releases
abbrev pub versions_of : List Release → List VersionParts
versions_of releases = map (λ release. release.version) releases

-- the version that is preferred, and then the others
abbrev pub preferring : Option VersionParts → List VersionParts → List VersionParts
preferring None versions = versions
preferring (Some kept) versions = kept ∷ filter (λ version. not (is_eq (version_cmp kept version))) versions

-- the release that has the version kept for a name, if there is one: its version
abbrev pub kept_version : ProblemParts → List ℕ → Option VersionParts
kept_version given name = option_and_then (λ version. option_map (λ release. release.version) (release_at given name version)) (lookup (bytes_eq name) given.kept)

-- whether a version is kept for a name, and no other counts beside it
abbrev pub is_held : ProblemParts → List ℕ → Bool
is_held given name = given.only_kept && is_some (lookup (bytes_eq name) given.kept)

-- the candidates of a name: the kept one, where the index has it, and then from newest to oldest; of a name that is held, the kept
-- one alone
abbrev pub candidates : ProblemParts → List ℕ → List VersionParts
candidates given name = if is_held given name then option_to_list (kept_version given name) else preferring (kept_version given name) (versions_of (releases_on given name))

-- what a solution has to meet; names are ordered by their bytes
abbrev pub rules_of : ProblemParts → Rules (List ℕ) Node VersionParts RequirementParts
rules_of given = record {
  lines = given.active;
  name = λ wanted. wanted.name;
  nodes = nodes_of;
  on = λ node. node.name;
  admits = admits given;
  wants = wants given;
  candidates = candidates given;
  compare = slice_cmp nat_cmp;
}
