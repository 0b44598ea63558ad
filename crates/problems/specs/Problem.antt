-- What a resolver is given.
use Rattle.std.specs.Prelude.{ℕ, Bool, List, [], ◌∷◌, Option, Some, None, Result, Ok, Err, if◌then◌else◌}
use Rattle.std.specs.List.{flat_map}
use Rattle.pep440.specs.Version.{VersionParts}
use Rattle.pep508.specs.Requirement.{RequirementParts, is_active, requirement_of}
use Rattle.markers.specs.Environment.{Texts}
use Rattle.markers.specs.declared.fault.Cause.{Cause}
use Rattle.snapshot.specs.Packages.{Index, releases_of}
use Rattle.snapshot.specs.Release.{Release}

-- the requirements of the active lines, the environment, the index, the versions that an earlier lock has, and whether none counts
-- beside them
pub record ProblemParts : Type 0 where
  pub active : List RequirementParts
  pub environment : Texts
  pub index : Index
  pub kept : List (List ℕ × VersionParts)
  pub only_kept : Bool

-- a requirement that counts in an environment, as a list of one or of none
abbrev pub counted_in : Texts → Option RequirementParts → List RequirementParts
counted_in environment None = []
counted_in environment (Some wanted) = if is_active wanted environment then wanted ∷ [] else []

-- the same of what was read of a line
abbrev pub active_in : Texts → Result (Option RequirementParts) Cause → List RequirementParts
active_in environment (Ok wanted) = counted_in environment wanted
active_in environment (Err cause) = []

-- the requirements of the active lines: those whose markers hold with no extra
abbrev pub requirements : Texts → List (List ℕ) → List RequirementParts
requirements environment lines = flat_map (λ line. active_in environment (requirement_of line)) lines

-- the releases of a name
abbrev pub releases_on : ProblemParts → List ℕ → List Release
releases_on given name = releases_of name given.index.packages
