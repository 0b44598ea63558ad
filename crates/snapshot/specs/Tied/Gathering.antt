-- The releases of a package as they are gone through, one after the other.
-- Tied to `newest_first` and `skipped_of` by the contract of the code's `gathered`; need not be read.
use Rattle.std.specs.Prelude.{ℕ, ◌+◌, List, [], ◌∷◌, ◌++◌, Result, Ok, Err, if◌then◌else◌}
use Rattle.std.specs.BTreeSet.{insert_key}
use Rattle.std.specs.List.{list_any}
use Rattle.snapshot.specs.declared.release.reading.Gathering.{Gathering}
use Rattle.snapshot.specs.declared.release.reading.ReadReleases.{ReadReleases}
use Rattle.snapshot.specs.declared.skipped.SkipCause.{SkipCause}
use Rattle.snapshot.specs.declared.skipped.SkipCause.TheVariants as causes
use Rattle.snapshot.specs.declared.skipped.Skipped.{Skipped}
use Rattle.snapshot.specs.declared.usable.ReleaseOutcome.{ReleaseOutcome}
use Rattle.snapshot.specs.Release.{Release}
use Rattle.snapshot.specs.Releases.{has_version_of, newer_cmp}

-- the releases of an array up to a place: those that are kept, newest first, and those that are left out, as they are listed
pub record Gathered : Type 0 where
  pub place : ℕ
  pub releases : List Release
  pub skipped : List Skipped

abbrev pub nothing : Gathered
nothing = record { place = 0; releases = []; skipped = [] }

-- the release at this place, left out
abbrev pub left_out : List ℕ → ℕ → List ℕ → SkipCause → List Skipped
left_out name place version cause = record { name = name; place = place; version = version; cause = cause } ∷ []

-- the releases with one more at its place, unless one of an equal version is there
abbrev pub with_release : List Release → Result Release SkipCause → List Release
with_release releases (Ok r) = insert_key newer_cmp releases r
with_release releases (Err cause) = releases

-- what is left out at this place, of this version, where these releases are kept before it
abbrev pub skipped_at : List ℕ → ℕ → List ℕ → List Release → Result Release SkipCause → List Skipped
skipped_at name place version kept (Ok r) = if list_any (has_version_of r) kept then left_out name place version causes.Duplicate else []
skipped_at name place version kept (Err cause) = left_out name place version cause

-- one more release of the package
abbrev pub gather_release : List ℕ → Gathered → ReleaseOutcome → Gathered
gather_release name g o = record {
  place = g.place + 1;
  releases = with_release g.releases o.release;
  skipped = g.skipped ++ skipped_at name g.place o.version g.releases o.release;
}

-- what was gathered
abbrev pub kept : Gathered → ReadReleases
kept g = record { releases = g.releases; skipped = g.skipped }

-- ---- what the code keeps

-- those up to a place
abbrev pub gathered_view : ℕ → Gathering → Gathered
gathered_view place g = record { place = place; releases = g.newest.keys; skipped = g.skipped.items }

-- all of them
abbrev pub kept_view : Gathering → ReadReleases
kept_view g = record { releases = g.newest.keys; skipped = g.skipped.items }
