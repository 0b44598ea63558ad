-- The dependencies of a release, by the extras that their markers name.
-- Tied to `wants` by the contract of `NodeWants::at`; need not be read.
use Rattle.std.specs.Prelude.{◌≡◌, ◌==◌, ◌-◌, nat_lt, ℕ, suc, Bool, false, List, [], ◌∷◌, ◌++◌, Option, Some, None, length, if◌then◌else◌}
use Rattle.std.specs.BTreeMap.{BTreeMap, get}
use Rattle.std.specs.Cmp.Lexicographic.{slice_cmp}
use Rattle.std.specs.List.{slice_get}
use Rattle.std.specs.Option.{option_map_or}
use Rattle.std.specs.Ordering.{nat_cmp}
use Rattle.markers.specs.Environment.{Texts}
use Rattle.markers.specs.MarkerExtras.{extras_in, is_among}
use Rattle.pep508.specs.Requirement.{RequirementParts}
use Rattle.problems.specs.Rules.{counts}

-- dependencies in an environment
pub record Depending : Type 0 where
  pub environment : Texts
  pub dependencies : List RequirementParts

-- whether the marker of a requirement names the extra
abbrev pub names_extra : List ℕ → RequirementParts → Bool
names_extra extra wanted = option_map_or (λ t. is_among extra (extras_in t)) wanted.marker false

-- the places of those that pass a test, counted on from a number
abbrev pub places : (RequirementParts → Bool) → ℕ → List RequirementParts → List ℕ
places test from [] = []
places test from (wanted ∷ rest) = if test wanted then from ∷ places test (suc from) rest else places test (suc from) rest

-- the places that are listed for an extra
abbrev pub listed_for : BTreeMap (List ℕ) (List ℕ) → List ℕ → List ℕ
listed_for named extra = option_map_or (λ listed. listed) (get (slice_cmp nat_cmp) named extra) []

-- the places of those that count with no extra, and of those that name each extra
pub record AreGrouped (environment : Texts) (dependencies : List RequirementParts) (bare : List ℕ) (named : BTreeMap (List ℕ) (List ℕ)) : Type 0 where
  pub counted : bare ≡ places (counts environment None) 0 dependencies
  pub naming : (extra : List ℕ) → listed_for named extra ≡ places (names_extra extra) 0 dependencies

-- whether a place stands at the end
abbrev pub is_last : ℕ → List ℕ → Bool
is_last place listed = option_map_or (λ last. last == place) (slice_get listed (length listed - 1)) false

-- a place put at the end, where it isn't there
abbrev pub put_last : ℕ → List ℕ → List ℕ
put_last place listed = if is_last place listed then listed else listed ++ place ∷ []

-- the lesser of two numbers that may be there
abbrev pub lesser : Option ℕ → Option ℕ → Option ℕ
lesser None other = other
lesser (Some m) None = Some m
lesser (Some m) (Some n) = if nat_lt n m then Some n else Some m

-- the lesser of the first places of two lists
abbrev pub least : List ℕ → List ℕ → Option ℕ
least first second = lesser (slice_get first 0) (slice_get second 0)

-- the places without the first one, where it is this
abbrev pub behind : ℕ → List ℕ → List ℕ
behind place [] = []
behind place (first ∷ rest) = if first == place then rest else first ∷ rest
