-- Which releases a requirement admits. All of it is reqlock's own rule, from the meaning of PEP 440 ("Handling of
-- pre-releases") and PEP 592 ("Installers"). It depends on lines, environment and index, and on no choice.
use Rattle.std.specs.Prelude.{ℕ, ◌&&◌, ◌||◌, not, Bool, true, false, List, [], Option, Some, None, find}
use Rattle.std.specs.List.{list_any}
use Rattle.std.specs.Option.{option_map_or}
use Rattle.std.specs.Ordering.{is_eq}
use Rattle.std.specs.Str.{bytes_eq}
use Rattle.pep440.specs.Matching.{matches, names_pre, pins}
use Rattle.pep440.specs.Order.{version_cmp}
use Rattle.pep440.specs.Version.{VersionParts, is_pre}
use Rattle.pep440.specs.declared.specifier.Clause.{Clause}
use Rattle.pep508.specs.Requirement.{RequirementParts}
use Rattle.markers.specs.Comparisons.{version_read}
use Rattle.markers.specs.Environment.{Texts, text_of}
use Rattle.markers.specs.declared.variable.Variable.TheVariants.{PythonFullVersion}
use Rattle.snapshot.specs.Release.{Release}
use Rattle.pep440.specs.Python.{PythonParts}
use Rattle.problems.specs.Problem.{ProblemParts, releases_on}

-- whether a set of Pythons has the full version of the environment
abbrev pub admits_python : PythonParts → Option VersionParts → Bool
admits_python python None = false
admits_python python (Some version) = matches python.set version

-- whether what a release asks of Python is met; where it asks for nothing, it is
abbrev pub meets_python : Texts → Option PythonParts → Bool
meets_python environment None = true
meets_python environment (Some python) = admits_python python (version_read (text_of environment PythonFullVersion))

-- whether the clauses match the version of a release that runs in the environment
abbrev pub fits : Texts → RequirementParts → Release → Bool
fits environment wanted release = matches wanted.clauses release.version && meets_python environment release.requires_python

-- whether the clauses of a requirement say so, or those of an active line on its name
abbrev pub is_said : (List Clause → Bool) → ProblemParts → RequirementParts → Bool
is_said says given wanted = says wanted.clauses || list_any (λ line. bytes_eq line.name wanted.name && says line.clauses) given.active

-- neither a pre-release nor yanked
abbrev pub is_final : Release → Bool
is_final release = not (is_pre release.version) && not release.yanked

-- whether some final release fits
abbrev pub has_final : ProblemParts → RequirementParts → Bool
has_final given wanted = list_any (λ release. is_final release && fits given.environment wanted release) (releases_on given wanted.name)

-- pre-releases count where they are asked for by name, or where no final release fits
abbrev pub takes_pre : ProblemParts → RequirementParts → Bool
takes_pre given wanted = is_said names_pre given wanted || not (has_final given wanted)

-- yanked releases count where one is pinned
abbrev pub takes_yanked : ProblemParts → RequirementParts → Bool
takes_yanked given wanted = is_said pins given wanted

-- whether a requirement admits a release, where it is known whether pre-releases and yanked releases count
abbrev pub admits_where : Texts → RequirementParts → Bool → Bool → Release → Bool
admits_where environment wanted pre yanked release =
    fits environment wanted release
    && ((not (is_pre release.version) || pre)
    && (not release.yanked || yanked))

-- whether a requirement admits a release of its name
abbrev pub admits_release : ProblemParts → RequirementParts → Release → Bool
admits_release given wanted release = admits_where given.environment wanted (takes_pre given wanted) (takes_yanked given wanted) release

-- whether a release has a version that equals this one
abbrev pub has_version : VersionParts → Release → Bool
has_version version release = is_eq (version_cmp version release.version)

-- the release of a name with that version
abbrev pub release_at : ProblemParts → List ℕ → VersionParts → Option Release
release_at given name version = find (has_version version) (releases_on given name)

-- the dependencies of the release with that version
abbrev pub dependencies_at : ProblemParts → List ℕ → VersionParts → List RequirementParts
dependencies_at given name version = option_map_or (λ release. release.dependencies) (release_at given name version) []

-- whether a requirement admits a version: none that is no release's
abbrev pub admits : ProblemParts → RequirementParts → VersionParts → Bool
admits given wanted version = option_map_or (admits_release given wanted) (release_at given wanted.name version) false
