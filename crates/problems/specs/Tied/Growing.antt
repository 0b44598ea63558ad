-- Lists of nodes that grow.
-- Tied to `AreNeeded` by the contract of `Problem::needed`; need not be read.
use Rattle.std.specs.Prelude.{◌≡◌, ◌⊎◌, List, [], ◌++◌, Option, Some, None}
use Rattle.std.specs.List.{Contains, flat_map}
use Rattle.pep440.specs.Version.{VersionParts}
use Rattle.pep508.specs.Requirement.{RequirementParts}
use Rattle.problems.specs.Problem.{ProblemParts}
use Rattle.problems.specs.Rules.{nodes_of}
use Rattle.problems.specs.Tied.OwnNeeds.{own_wants}
use Rattle.problems.specs.declared.node.Node.{Node}

-- new is old with nodes behind it that are wanted, and has all that are
pub record Grows (old new wanted : List Node) : Type 0 where
  pub more : List Node
  pub extended : new ≡ old ++ more
  pub added : (node : Node) → Contains wanted node → Contains new node
  pub only : (node : Node) → Contains new node → Contains old node ⊎ Contains wanted node

-- the nodes that requirements need
abbrev pub nodes_asked : List RequirementParts → List Node
nodes_asked requirements = flat_map nodes_of requirements

-- the nodes that a node leads to by what it wants of its own, with this version of its name
abbrev pub nodes_linked : ProblemParts → Node → Option VersionParts → List Node
nodes_linked given node None = []
nodes_linked given node (Some version) = nodes_asked (own_wants given node version)

-- the requirements of the active lines, and the dependencies of all releases of the index
abbrev pub requirements_met : ProblemParts → List RequirementParts
requirements_met given = given.active ++ flat_map (λ p. flat_map (λ release. release.dependencies) p.releases) given.index.packages

-- the nodes that these need: a walk meets no others
abbrev pub nodes_met : ProblemParts → List Node
nodes_met given = nodes_asked (requirements_met given)
