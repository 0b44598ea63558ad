-- What an index that was read keeps: where each package stands, and that releases fall.
-- Tied to `releases_of` by the model of `Snapshot`, and to `repeated_names` by the contract of the code's
-- `places_of`; need not be read.
use Rattle.std.specs.Prelude.{◌≡◌, ℕ, List, [], ◌∷◌, ◌++◌, Option, Some, None, String, if◌then◌else◌}
use Rattle.std.specs.BTreeMap.{BTreeMap, get_by_text}
use Rattle.std.specs.List.{AllByRecursion, list_any, position_from}
use Rattle.std.specs.List.Sorted.{IsStrictlySortedBy}
use Rattle.std.specs.declared.alloc.Global.{Global}
use Rattle.snapshot.specs.declared.package.Package.{Package}
use Rattle.snapshot.specs.Packages.{is_named}
use Rattle.snapshot.specs.Releases.{newer_cmp}

-- the map has the place of the first package of each name
abbrev pub ArePlaces : BTreeMap (String Global) ℕ → List Package → Type 0
ArePlaces places packages = (name : List ℕ) → get_by_text places name ≡ position_from (is_named name) 0 packages

-- each package's releases fall by version: no two have equal versions
abbrev pub AllFall : List Package → Type 0
AllFall packages = AllByRecursion (λ p. IsStrictlySortedBy newer_cmp p.releases) packages

-- the first package that has the name of one before it: its name; `earlier` are the packages before these
abbrev pub repeated_from : List Package → List Package → Option (List ℕ)
repeated_from earlier [] = None
repeated_from earlier (p ∷ ps) = if list_any (is_named p.name) earlier then Some p.name else repeated_from (earlier ++ p ∷ []) ps
