-- The releases of a package (reqlock's own format of an index).
use Rattle.std.specs.Prelude.{ℕ, suc, Bool, false, not, List, [], ◌∷◌, codes, fold, take, Option, Some, None, Result, Ok, Err, if◌then◌else◌}
use Rattle.std.specs.BTreeSet.{insert_key}
use Rattle.std.specs.List.{enumerate_from, filter_map, list_any}
use Rattle.std.specs.Option.{option_map}
use Rattle.std.specs.Ordering.{is_eq}
use Rattle.std.specs.Result.{result_ok}
use Rattle.std.specs.declared.cmp.Ordering.{Ordering}
use Rattle.serde_json.specs.Data.{Data, Items, no_items}
use Rattle.serde_json.specs.Find.{as_array, as_bool, as_str}
use Rattle.markers.specs.declared.fault.Cause.{Cause}
use Rattle.pep440.specs.Order.{version_cmp}
use Rattle.pep440.specs.Tied.Reading.{version_of}
use Rattle.pep440.specs.Version.{VersionParts}
use Rattle.pep440.specs.declared.fault.Fault.{Fault as VersionFault}
use Rattle.pep508.specs.Requirement.{RequirementParts, requirement_text}
use Rattle.snapshot.specs.declared.fault.Fault.{Fault}
use Rattle.distributions.specs.declared.file.DistributionFile.{DistributionFile}
use Rattle.snapshot.specs.declared.listed.Listed.{Listed}
use Rattle.snapshot.specs.declared.release.reading.ReadReleases.{ReadReleases}
use Rattle.snapshot.specs.declared.skipped.SkipCause.{SkipCause}
use Rattle.snapshot.specs.declared.skipped.SkipCause.TheVariants as causes
use Rattle.snapshot.specs.declared.skipped.Skipped.{Skipped}
use Rattle.snapshot.specs.declared.usable.ReleaseOutcome.{ReleaseOutcome}
use Rattle.snapshot.specs.Files.{each_file, file_of, has_file, has_file_name, has_url, sdist_of, wheels_of}
use Rattle.snapshot.specs.Python.{python_of}
use Rattle.snapshot.specs.Release.{Release}
use Rattle.snapshot.specs.Shape.{◌>>=◌, each_at, each_from, field, object_of, optional, or_absent, required, text_of}

-- the keys of a release, in the order in which their shapes are tested
unfoldable pub listed_of : Data → Result Listed Fault
listed_of d = do
  _ ← object_of d
  version ← field (required as_str) (codes "version") d
  requires_python ← field (optional [] as_str) (codes "requires_python") d
  dependencies ← field (optional no_items as_array) (codes "requires_dist") d
  requires_dist ← each_at text_of (codes "requires_dist") dependencies
  yanked ← field (or_absent false as_bool) (codes "yanked") d
  listed ← field (required as_array) (codes "files") d
  files ← each_at file_of (codes "files") listed
  Ok (record { version = version; requires_python = requires_python; requires_dist = requires_dist; yanked = yanked; files = files })

-- a version that was read
abbrev pub versioned : Result VersionParts VersionFault → Result VersionParts SkipCause
versioned (Ok v) = Ok v
versioned (Err fault) = Err (causes.Version fault)

-- the requirement that was read at this place
abbrev pub required_at : ℕ → Result RequirementParts Cause → Result RequirementParts SkipCause
required_at place (Ok wanted) = Ok wanted
required_at place (Err cause) = Err (causes.Requirement place cause)

-- the requirements that texts are, the first of them at this place
unfoldable pub requirements_from : ℕ → List (List ℕ) → Result (List RequirementParts) SkipCause
requirements_from place [] = Ok []
requirements_from place (text ∷ texts) = do
  first ← required_at place (requirement_text text)
  others ← requirements_from (suc place) texts
  Ok (first ∷ others)

-- why a release with these files to install from can't be used
abbrev pub fault_of_files : Option DistributionFile → List DistributionFile → Option SkipCause
fault_of_files sdist wheels =
    if not (has_file sdist wheels) then Some causes.NoFile
    else if not (each_file has_file_name sdist wheels) then Some causes.FileName
    else if not (each_file has_url sdist wheels) then Some causes.FileUrl
    else None

-- the release, unless there is a cause against it
abbrev pub unless_refused : Release → Option SkipCause → Result Release SkipCause
unless_refused r None = Ok r
unless_refused r (Some cause) = Err cause

-- the release, unless it can't be used for its files
abbrev pub with_files : Release → Result Release SkipCause
with_files r = unless_refused r (fault_of_files r.sdist r.wheels)

-- the release, or the first cause for which it can't be used
unfoldable pub usable : Listed → Result Release SkipCause
usable r = do
  version ← versioned (version_of r.version)
  requires_python ← python_of r.requires_python
  dependencies ← requirements_from 0 r.requires_dist
  with_files (record { version = version; requires_python = requires_python; dependencies = dependencies; yanked = r.yanked; sdist = sdist_of r.files; wheels = wheels_of r.files })

-- what comes of a listed release: its version as the index writes it, and the release, or why it can't be used
abbrev pub outcome_of : Listed → ReleaseOutcome
outcome_of r = record { version = r.version; release = usable r }

-- what comes of the release that a value lists
unfoldable pub release_of : Data → Result ReleaseOutcome Fault
release_of d = do
  r ← listed_of d
  Ok (outcome_of r)

-- the newer release comes first (PEP 440, "Summary of permitted suffixes and relative ordering")
abbrev pub newer_cmp : Release → Release → Ordering
newer_cmp r s = version_cmp s.version r.version

-- whether s has a version equal to that of r
abbrev pub has_version_of : Release → Release → Bool
has_version_of r s = is_eq (newer_cmp r s)

-- the releases of a list that can be used, as they are listed
abbrev pub usable_of : List ReleaseOutcome → List Release
usable_of listed = filter_map (λ o. result_ok o.release) listed

-- the newest release first; of those with equal versions the first that is listed
abbrev pub newest_first : List Release → List Release
newest_first releases = fold (insert_key newer_cmp) [] releases

-- why a release is left out behind those before it: it can't be used, or one that can is before it with an equal
-- version
abbrev pub cause_behind : List ReleaseOutcome → Result Release SkipCause → Option SkipCause
cause_behind before (Ok r) = if list_any (has_version_of r) (usable_of before) then Some causes.Duplicate else None
cause_behind before (Err cause) = Some cause

-- the release of a package at a place, with its version as the index writes it, where it is left out
abbrev pub left_out_for : List ℕ → ℕ → List ℕ → Option SkipCause → Option Skipped
left_out_for name place version cause = option_map (λ cause. record { name = name; place = place; version = version; cause = cause }) cause

-- the releases of a package that are left out, as they are listed
abbrev pub skipped_of : List ℕ → List ReleaseOutcome → List Skipped
skipped_of name listed =
    filter_map (λ at. left_out_for name at.0 at.1.version (cause_behind (take at.0 listed) at.1.release)) (enumerate_from 0 listed)

-- what an array lists for a package: the releases that can be used, and those that are left out
unfoldable pub releases_in : List ℕ → Items → Result ReadReleases Fault
releases_in name ds = do
  listed ← each_from release_of 0 ds
  Ok (record { releases = newest_first (usable_of listed); skipped = skipped_of name listed })
