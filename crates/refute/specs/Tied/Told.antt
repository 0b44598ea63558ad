-- What the choices and terms of a search of a problem's table stand for.
-- Tied to `IsRefutation` and `IsSetRefutation` by the contracts of `refuted` and `refuted_by_sets`; need not be read.
use Rattle.std.specs.Prelude.{ℕ, List, [], map}
use Rattle.pep440.specs.Version.{VersionParts as Version}
use Rattle.search.specs.Known.{choice_pictured, term_pictured}
use Rattle.search.specs.Table.{TableParts, name_of}
use Rattle.search.specs.declared.conflict.NodeChoice.{NodeChoice}
use Rattle.search.specs.declared.term.Term.{Term}
use Rattle.problems.specs.Problem.{ProblemParts, releases_on}
use Rattle.problems.specs.declared.node.Node.{Node}
use Rattle.problems.specs.Choices.{ChoiceParts}
use Rattle.set_refutations.specs.SetRefutations.{TermParts}
use Rattle.resolve.specs.Tied.Pictured.{name_at, picture_of}
use Rattle.resolve.specs.Tied.Places.{version_at}

-- the choice that a decision of a search stands for
abbrev pub choice_at : ProblemParts → List (List ℕ) → List Node → TableParts → NodeChoice ℕ ℕ → ChoiceParts
choice_at given names nodes t decision = choice_pictured t (picture_of given names nodes []) decision

-- the versions that those of a term stand for
abbrev pub versions_pictured : ProblemParts → List (List ℕ) → TableParts → Term ℕ ℕ → List Version
versions_pictured given names t term = map (version_at (releases_on given (name_at names (name_of t term.node)))) term.versions

-- what the term stands for
abbrev pub term_at : ProblemParts → List (List ℕ) → List Node → TableParts → Term ℕ ℕ → TermParts
term_at given names nodes t term = term_pictured t (picture_of given names nodes []) term
