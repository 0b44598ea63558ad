-- Environments in which all that a lock asks of one has the same answer. All of it is reqlock's own rule.
use Rattle.std.specs.Prelude.{◌≡◌, ℕ, true, List, Option, Some, None, Result, Ok, Err}
use Rattle.std.specs.List.{AllByRecursion, Contains}
use Rattle.markers.specs.Environment.{Texts}
use Rattle.markers.specs.Marker.{Tree}
use Rattle.markers.specs.declared.fault.Cause.{Cause}
use Rattle.pep440.specs.Matching.{matches}
use Rattle.pep508.specs.Requirement.{RequirementParts, requirement_of}
use Rattle.problems.specs.Admission.{meets_python}
use Rattle.problems.specs.Rules.{applies_with}
use Rattle.snapshot.specs.Packages.{Index, releases_of}
use Rattle.snapshot.specs.Release.{Release}

-- a marker that may be there holds in both environments or in neither, whatever extra is asked
abbrev pub MarkerAlike : Texts → Texts → Option Tree → Type 0
MarkerAlike environment other marker = (extra : Option (List ℕ)) → applies_with environment extra marker ≡ applies_with other extra marker

-- so it is with the marker of a requirement
abbrev pub WantedAlike : Texts → Texts → RequirementParts → Type 0
WantedAlike environment other wanted = MarkerAlike environment other wanted.marker

-- the marker of what a line asks for, if there is one
abbrev pub marker_in : Result (Option RequirementParts) Cause → Option Tree
marker_in (Ok (Some wanted)) = wanted.marker
marker_in (Ok None) = None
marker_in (Err cause) = None

-- so it is with the marker of a line
abbrev pub LineAlike : Texts → Texts → List ℕ → Type 0
LineAlike environment other line = MarkerAlike environment other (marker_in (requirement_of line))

-- so it is with what a release asks of Python, and with the markers of its dependencies
pub record ReleaseAlike (environment other : Texts) (release : Release) : Type 0 where
  pub python : meets_python environment release.requires_python ≡ meets_python other release.requires_python
  pub dependencies : AllByRecursion (WantedAlike environment other) release.dependencies

-- what lines can ask for over an index, whatever the environment: what a line asks for, and each dependency of a release whose version
-- matches the clauses of what is asked for
pub data CanAsk (lines : List (List ℕ)) (index : Index) : RequirementParts → Type 0 where
  by_line : (line : List ℕ) (wanted : RequirementParts) → Contains lines line → requirement_of line ≡ Ok (Some wanted) → CanAsk lines index wanted
  by_dependency : (above : RequirementParts) (release : Release) (wanted : RequirementParts) → CanAsk lines index above → Contains (releases_of above.name index.packages) release → matches above.clauses release.version ≡ true → Contains release.dependencies wanted → CanAsk lines index wanted

-- a release answers alike, if its version matches the clauses of a requirement
abbrev pub MatchedAlike : Texts → Texts → RequirementParts → Release → Type 0
MatchedAlike environment other wanted release = matches wanted.clauses release.version ≡ true → ReleaseAlike environment other release

-- so it is with each release that lines can lead to over an index, also where it isn't chosen
abbrev pub ReachAlike : List (List ℕ) → Index → Texts → Texts → Type 0
ReachAlike lines index environment other = (wanted : RequirementParts) → CanAsk lines index wanted → AllByRecursion (MatchedAlike environment other wanted) (releases_of wanted.name index.packages)

-- all that lines can ask of an environment over an index has the same answer in another
pub record AnswersAlike (lines : List (List ℕ)) (index : Index) (environment other : Texts) : Type 0 where
  pub of_lines : AllByRecursion (LineAlike environment other) lines
  pub of_releases : ReachAlike lines index environment other
