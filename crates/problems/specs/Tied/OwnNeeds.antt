-- What a node wants of its own: with an extra, only what names the extra. What counts there and doesn't name it counts with no extra too, and
-- the node of the name with no extra, which is needed beside, wants that.
-- Tied to `rules_of` by the law `own_needs_are_enough`; need not be read.
use Rattle.std.specs.Prelude.{ℕ, ◌&&◌, List, Option, Some, None, filter}
use Rattle.std.specs.Cmp.Lexicographic.{slice_cmp}
use Rattle.std.specs.Ordering.{nat_cmp}
use Rattle.pep440.specs.Version.{VersionParts}
use Rattle.pep508.specs.Requirement.{RequirementParts}
use Rattle.markers.specs.Environment.{Texts}
use Rattle.search.specs.Rules.{Rules}
use Rattle.problems.specs.Admission.{admits, dependencies_at}
use Rattle.problems.specs.Problem.{ProblemParts}
use Rattle.problems.specs.Rules.{candidates, counts, nodes_of}
use Rattle.problems.specs.Tied.ByExtra.{names_extra}
use Rattle.problems.specs.declared.node.Node.{Node}

-- the dependencies that name an extra and count with it
abbrev pub named_wants : Texts → List ℕ → List RequirementParts → List RequirementParts
named_wants environment extra dependencies = filter (λ wanted. names_extra extra wanted && counts environment (Some extra) wanted) dependencies

-- the dependencies that a node with an extra or none wants of its own
abbrev pub own_wants_of : Texts → Option (List ℕ) → List RequirementParts → List RequirementParts
own_wants_of environment None dependencies = filter (counts environment None) dependencies
own_wants_of environment (Some extra) dependencies = named_wants environment extra dependencies

-- what a node wants of its own, of the release with that version
abbrev pub own_wants : ProblemParts → Node → VersionParts → List RequirementParts
own_wants given node version = own_wants_of given.environment node.extra (dependencies_at given node.name version)

-- the rules of a problem, but that each node wants what is its own
abbrev pub own_rules : ProblemParts → Rules (List ℕ) Node VersionParts RequirementParts
own_rules given = record {
  lines = given.active;
  name = λ wanted. wanted.name;
  nodes = nodes_of;
  on = λ node. node.name;
  admits = admits given;
  wants = own_wants given;
  candidates = candidates given;
  compare = slice_cmp nat_cmp;
}
