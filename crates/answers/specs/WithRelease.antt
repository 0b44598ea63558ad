-- The best solution that has a release. All of it is reqlock's own rule.
use Rattle.std.specs.Prelude.{◌≡◌, ℕ, Bool, true, false, List, Option}
use Rattle.std.specs.Option.{option_map_or}
use Rattle.pep440.specs.Version.{VersionParts}
use Rattle.search.specs.Solutions.{IsBest}
use Rattle.problems.specs.Problem.{ProblemParts}
use Rattle.problems.specs.Rules.{rules_of, same_version}

-- whether a map has a release of a name
abbrev pub has_release : (List ℕ → Option VersionParts) → List ℕ → VersionParts → Bool
has_release chosen name version = option_map_or (λ own. same_version own version) (chosen name) false

-- the best solution of a problem, which has a release
pub record IsBestHaving (given : ProblemParts) (name : List ℕ) (version : VersionParts) (chosen : List ℕ → Option VersionParts) : Type 0 where
  pub best : IsBest (rules_of given) chosen
  pub has : has_release chosen name version ≡ true
