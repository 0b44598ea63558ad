-- Why a requirement doesn't admit a release of its name: what `admits_release` lacks there. It is reqlock's own rule.
use Rattle.std.specs.Prelude.{◌≡◌, ◌&&◌, not, ℕ, Bool, true, false, List, Some, take}
use Rattle.std.specs.List.{slice_get}
use Rattle.pep440.specs.Matching.{clause_matches, matches}
use Rattle.pep440.specs.Version.{VersionParts, is_pre}
use Rattle.pep440.specs.declared.specifier.Clause.{Clause}
use Rattle.pep508.specs.Requirement.{RequirementParts}
use Rattle.snapshot.specs.Release.{Release}
use Rattle.problems.specs.Admission.{fits, meets_python, takes_pre, takes_yanked}
use Rattle.problems.specs.Problem.{ProblemParts}
use Rattle.problems.specs.declared.inadmissible.Inadmissible.{Inadmissible}
use Rattle.problems.specs.declared.inadmissible.Inadmissible.TheVariants.{Clause as OfClause, PreRelease, Python, Yanked, YankedPreRelease}

-- the version doesn't match the clause at the place, and matches those before it
abbrev pub IsFirstUnmatched : List Clause → VersionParts → ℕ → Type 0
IsFirstUnmatched clauses version place =
    (clause : Clause) × (slice_get clauses place ≡ Some clause) × (clause_matches clause version ≡ false) × (matches (take place clauses) version ≡ true)

-- whether a release is yanked, and yanked ones don't count
abbrev pub lacks_pin : ProblemParts → RequirementParts → Release → Bool
lacks_pin given wanted release = release.yanked && not (takes_yanked given wanted)

-- whether a release is a pre-release, and pre-releases don't count
abbrev pub is_early : ProblemParts → RequirementParts → Release → Bool
is_early given wanted release = is_pre release.version && not (takes_pre given wanted)

-- why a requirement doesn't admit a release of its name
abbrev pub IsReason : ProblemParts → RequirementParts → Release → Inadmissible → Type 0
IsReason given wanted release (OfClause place) = IsFirstUnmatched wanted.clauses release.version place
IsReason given wanted release Python = (matches wanted.clauses release.version ≡ true) × (meets_python given.environment release.requires_python ≡ false)
IsReason given wanted release Yanked = (fits given.environment wanted release ≡ true) × (lacks_pin given wanted release ≡ true) × (is_early given wanted release ≡ false)
IsReason given wanted release PreRelease = (fits given.environment wanted release ≡ true) × (lacks_pin given wanted release ≡ false) × (is_early given wanted release ≡ true)
IsReason given wanted release YankedPreRelease = (fits given.environment wanted release ≡ true) × (lacks_pin given wanted release ≡ true) × (is_early given wanted release ≡ true)
