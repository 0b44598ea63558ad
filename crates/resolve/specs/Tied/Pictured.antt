-- When a table of numbers stands for a problem.
-- Tied to `rules_of` by the contract of `Resolver::resolve`; need not be read.
use Rattle.std.specs.Prelude.{◌≡◌, ◌<◌, ℕ, List, [], Option, None, length, map}
use Rattle.std.specs.Cmp.Lexicographic.{slice_cmp}
use Rattle.std.specs.Ordering.{nat_cmp}
use Rattle.std.specs.List.{AllZip, Contains, slice_index_or}
use Rattle.std.specs.List.Sorted.{IsStrictlySortedBy}
use Rattle.pep440.specs.Version.{VersionParts as Version}
use Rattle.pep508.specs.Requirement.{RequirementParts}
use Rattle.search.specs.Known.{AreApart}
use Rattle.search.specs.Picture.{Picture, IsPicture, pictured}
use Rattle.search.specs.Solutions.{version_pinned}
use Rattle.search.specs.Table.{TableParts, candidates_of}
use Rattle.search.specs.declared.parts.TableChoice.{TableChoice}
use Rattle.snapshot.specs.Releases.{newer_cmp}
use Rattle.problems.specs.Problem.{ProblemParts, releases_on}
use Rattle.problems.specs.Rules.{bare, rules_of, same_version}
use Rattle.problems.specs.declared.node.Node.{Node}
use Rattle.resolve.specs.Tied.Places.{AreCandidates, version_at}

abbrev pub name_at : List (List ℕ) → ℕ → List ℕ
name_at names n = slice_index_or names n []

-- names, nodes and requirements by their places; a version by that of its release
abbrev pub picture_of : ProblemParts → List (List ℕ) → List Node → List RequirementParts → Picture (List ℕ) Node Version RequirementParts
picture_of given names nodes asked = record {
  name = name_at names;
  node = λ node. slice_index_or nodes node (bare []);
  version = λ n place. version_at (releases_on given (name_at names n)) place;
  requirement = λ r. slice_index_or asked r (record { name = []; extras = []; clauses = []; marker = None });
}

-- the table stands for the problem; its names and nodes are these
pub record IsPictured (given : ProblemParts) (names : List (List ℕ)) (nodes : List Node) (t : TableParts) : Type 0 where
  pub asked : List RequirementParts
  pub pictured : IsPicture t (picture_of given names nodes asked) (rules_of given)
  pub apart : AreApart t (picture_of given names nodes asked) same_version
  pub counted : length t.candidates ≡ length names
  pub counted_nodes : length t.nodes ≡ length nodes
  pub within : (n place : ℕ) → Contains (candidates_of t n) place → place < length (releases_on given (name_at names n))

-- a choice of a name that is there, with the place of one of its releases
abbrev pub IsKnown : ProblemParts → List (List ℕ) → TableChoice → Type 0
IsKnown given names choice = (choice.name < length names) × (choice.place < length (releases_on given (name_at names choice.name)))

abbrev pub AreKnown : ProblemParts → List (List ℕ) → List TableChoice → Type 0
AreKnown given names choices = (choice : TableChoice) → Contains choices choice → IsKnown given names choice

-- a name's candidates by their places; its releases fall by version
pub record IsListed (given : ProblemParts) (places : List ℕ) (name : List ℕ) : Type 0 where
  pub candidates : AreCandidates given name places
  pub fall : IsStrictlySortedBy newer_cmp (releases_on given name)

abbrev pub AreListed : ProblemParts → List (List ℕ) → List (List ℕ) → Type 0
AreListed given rows names = AllZip (IsListed given) rows names

-- the version that the first choice on a name stands for
abbrev pub chosen : ProblemParts → List (List ℕ) → List TableChoice → List ℕ → Option Version
chosen given names choices = version_pinned (slice_cmp nat_cmp) (pictured (picture_of given names [] []) choices)
