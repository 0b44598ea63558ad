-- The entries of the names of a solution, as they are put together.
-- Tied to `IsLockOf` by the contract of `locked`; need not be read.
use Rattle.std.specs.Prelude.{◌≡◌, ◌≢◌, ℕ, List, map, Option, Some}
use Rattle.std.specs.Cmp.Lexicographic.{slice_cmp}
use Rattle.std.specs.List.{Contains}
use Rattle.std.specs.List.Sorted.{IsStrictlySortedBy}
use Rattle.std.specs.Ordering.{nat_cmp}
use Rattle.pep440.specs.Version.{VersionParts}
use Rattle.pylock.specs.Packages.{EntryParts}
use Rattle.snapshot.specs.Lawful.{IsRelease}
use Rattle.snapshot.specs.Release.{Release}
use Rattle.problems.specs.Admission.{release_at}
use Rattle.problems.specs.Problem.{ProblemParts}
use Rattle.problems.specs.Solutions.{version_for}
use Rattle.states.specs.Locks.{IsEntry, python_text, sdist_of, versions_of, wheels_of}

-- the entry of a name with its version, where these names are needed and this release may be there
abbrev pub entry_with : (List ℕ × VersionParts) → List (List ℕ) → Option Release → EntryParts
entry_with p names release = record { name = p.0; version = p.1; requires_python = python_text release; dependencies = names; sdist = sdist_of release; wheels = wheels_of release }

-- the entry of a name with its version, given the names that each name needs
abbrev pub entry_for : ProblemParts → (List ℕ → List (List ℕ)) → (List ℕ × VersionParts) → EntryParts
entry_for given names p = entry_with p (names p.0) (release_at given p.0 p.1)

-- names that rise by their bytes, each of them another than this one
pub record AreNeeds (own : List ℕ) (names : List (List ℕ)) : Type 0 where
  pub rising : IsStrictlySortedBy (slice_cmp nat_cmp) names
  pub others : (name : List ℕ) → Contains names name → name ≢ own

-- a version of a name is that of a release which can be used
abbrev pub HasRelease : ProblemParts → List ℕ → VersionParts → Type 0
HasRelease given name version = (r : Release) × (release_at given name version ≡ Some r) × IsRelease r

-- the entries of these names with their versions: names rise by their bytes, and each entry is that of its release, which is
-- there
pub record AreEntries (given : ProblemParts) (versions : List (List ℕ × VersionParts)) (lock : List EntryParts) : Type 0 where
  pub versions_are : versions_of lock ≡ versions
  pub rising : IsStrictlySortedBy (slice_cmp nat_cmp) (map (λ e. e.name) lock)
  pub entries : (e : EntryParts) → Contains lock e → IsEntry given (version_for versions) e
  pub releases : (e : EntryParts) → Contains lock e → HasRelease given e.name e.version
