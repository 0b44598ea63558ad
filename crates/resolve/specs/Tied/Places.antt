-- Releases by their places among those of their name, which are newest first.
-- Tied to `rules_of` by the contract of `Resolver::resolve`; need not be read.
use Rattle.std.specs.Prelude.{◌≡◌, ℕ, ◌<◌, List, [], None, length, map}
use Rattle.std.specs.List.{Contains, slice_index_or}
use Rattle.pep440.specs.Version.{VersionParts}
use Rattle.snapshot.specs.Release.{Release}
use Rattle.problems.specs.Problem.{ProblemParts, releases_on}
use Rattle.problems.specs.Rules.{candidates, versions_of}

-- the version of the release at a place; what stands for none is that of no release
abbrev pub version_at : List Release → ℕ → VersionParts
version_at releases place = slice_index_or (versions_of releases) place (record { epoch = 0; release = []; pre = None; post = None; dev = None; local = [] })

-- the places of a name's candidates, in the order in which they are preferred
pub record AreCandidates (given : ProblemParts) (name : List ℕ) (places : List ℕ) : Type 0 where
  pub versions : map (version_at (releases_on given name)) places ≡ candidates given name
  pub within : (place : ℕ) → Contains places place → place < length (releases_on given name)
