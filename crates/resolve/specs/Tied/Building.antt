-- What is gathered for a table.
-- Tied to `rules_of` by the contract of `Resolver::resolve`; need not be read.
use Rattle.std.specs.Prelude.{◌≡◌, ℕ, List, map}
use Rattle.std.specs.List.{AllZip, Contains}
use Rattle.pep508.specs.Requirement.{RequirementParts}
use Rattle.search.specs.Table.{required_nodes}
use Rattle.search.specs.declared.parts.TableRequirement.{TableRequirement as Entry}
use Rattle.problems.specs.Admission.{admits_release}
use Rattle.problems.specs.Tied.Growing.{nodes_met}
use Rattle.problems.specs.Problem.{ProblemParts, releases_on}
use Rattle.problems.specs.Rules.{nodes_of, wants_of}
use Rattle.problems.specs.Tied.Standing.{AllStand, IsLonger}
use Rattle.problems.specs.declared.node.Node.{Node}

-- the nodes, the requirements that lines and dependencies ask for, and the table's entry of each requirement
pub record Gathered : Type 0 where
  pub nodes : List Node
  pub asked : List RequirementParts
  pub entries : List Entry

-- the entry of a requirement: the numbers of its nodes, and for each release of its name whether it is admitted
pub record IsEntry (given : ProblemParts) (nodes : List Node) (entry : Entry) (wanted : RequirementParts) : Type 0 where
  pub numbers : AllStand nodes (required_nodes entry) (nodes_of wanted)
  pub admitted : entry.admits ≡ map (admits_release given wanted) (releases_on given wanted.name)

-- each requirement has its entry, and each node is one that a walk can meet
pub record AreEntries (given : ProblemParts) (gathered : Gathered) : Type 0 where
  pub each : AllZip (IsEntry given gathered.nodes) gathered.entries gathered.asked
  pub met : (node : Node) → Contains gathered.nodes node → Contains (nodes_met given) node

-- nodes and requirements are put behind those that are there
pub record IsGrown (old new : Gathered) : Type 0 where
  pub nodes_more : IsLonger old.nodes new.nodes
  pub asked_more : IsLonger old.asked new.asked

-- for each release the numbers of its dependencies that count
abbrev pub AreWants : List RequirementParts → List (List ℕ) → List (List RequirementParts) → Type 0
AreWants asked rows wants = AllZip (AllStand asked) rows wants

-- the same at a node
abbrev pub IsWanted : ProblemParts → List RequirementParts → List (List ℕ) → Node → Type 0
IsWanted given asked rows node = AreWants asked rows (map (wants_of given.environment node.extra) (releases_on given node.name))
