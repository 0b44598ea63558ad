-- Solutions of a problem, and the nodes that versions need.
use Rattle.std.specs.Prelude.{ℕ, List, Option}
use Rattle.std.specs.List.{Contains}
use Rattle.std.specs.Map.{lookup}
use Rattle.std.specs.Str.{bytes_eq}
use Rattle.pep440.specs.Version.{VersionParts}
use Rattle.search.specs.Solutions.{Needed, Solution as IsSolution}
use Rattle.problems.specs.Problem.{ProblemParts}
use Rattle.problems.specs.Rules.{rules_of}
use Rattle.problems.specs.declared.node.Node.{Node}

-- the version that a list of names with versions has for a name
abbrev pub version_for : List (List ℕ × VersionParts) → List ℕ → Option VersionParts
version_for versions name = lookup (bytes_eq name) versions

-- some versions are a solution
abbrev pub HasSolution : ProblemParts → Type 0
HasSolution given = (s : List ℕ → Option VersionParts) × IsSolution (rules_of given) s

-- the nodes that are needed with these versions, and no others
pub record AreNeeded (given : ProblemParts) (chosen : List ℕ → Option VersionParts) (nodes : List Node) : Type 0 where
  pub sound : (node : Node) → Contains nodes node → Needed (rules_of given) chosen node
  pub whole : (node : Node) → Needed (rules_of given) chosen node → Contains nodes node
