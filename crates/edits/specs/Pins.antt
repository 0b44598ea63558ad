-- Versions that are handed in for targets, beside those of their own locks. All of it is reqlock's own rule.
use Rattle.std.specs.Prelude.{ℕ, ◌++◌, ◌&&◌, not, Bool, true, List, [], fold, map, filter, find, flat_map, is_some, Option, option_map, if◌then◌else◌}
use Rattle.std.specs.BTreeMap.{insert_entry}
use Rattle.std.specs.Cmp.Lexicographic.{slice_cmp}
use Rattle.std.specs.List.{filter_map, list_all, list_any}
use Rattle.std.specs.Option.{option_map_or}
use Rattle.std.specs.Ordering.{bool_cmp, is_lt, nat_cmp, ordering_then}
use Rattle.std.specs.Str.{bytes_eq}
use Rattle.std.specs.declared.cmp.Ordering.{Ordering}
use Rattle.pep440.specs.Order.{version_cmp}
use Rattle.pep440.specs.Version.{VersionParts}
use Rattle.snapshot.specs.Packages.{Index, releases_of}
use Rattle.problems.specs.Admission.{has_version}
use Rattle.problems.specs.Rules.{same_version}
use Rattle.problems.specs.Solutions.{version_for}
use Rattle.states.specs.Locks.{versions_of}
use Rattle.states.specs.Names.{with_names}
use Rattle.states.specs.declared.target.Target.{Target}
use Rattle.edits.specs.declared.pins.TargetPins.{TargetPins}

-- whether the index has a release of the name whose version equals this one
abbrev pub is_released : Index → List ℕ → VersionParts → Bool
is_released index name version = list_any (has_version version) (releases_of name index.packages)

-- how versions of a name compare as pins: one that the index lacks is below each that it has, and else they go by their order
abbrev pub pin_cmp : Index → List ℕ → VersionParts → VersionParts → Ordering
pin_cmp index name v w = ordering_then (bool_cmp (is_released index name v) (is_released index name w)) (version_cmp v w)

-- of versions of a name the first that is below none of them
abbrev pub greatest_pin : Index → List ℕ → List VersionParts → Option VersionParts
greatest_pin index name versions = find (λ v. not (list_any (λ w. is_lt (pin_cmp index name v w)) versions)) versions

-- the versions of a name, in their order
abbrev pub versions_on : List ℕ → List (List ℕ × VersionParts) → List VersionParts
versions_on name pins = map (λ p. p.1) (filter (λ p. bytes_eq name p.0) pins)

-- of own versions and others: each name, in order, with the greatest of the versions that both have for it, and of equal ones the own
abbrev pub newer_of : Index → List (List ℕ × VersionParts) → List (List ℕ × VersionParts) → List (List ℕ × VersionParts)
newer_of index own others =
    filter_map (λ name. option_map (λ version. (name, version)) (greatest_pin index name (versions_on name (own ++ others)))) (with_names [] (map (λ p. p.0) (own ++ others)))

-- the versions that are handed in for the target of a name
abbrev pub pins_for : List TargetPins → List ℕ → List (List ℕ × VersionParts)
pins_for pins target = flat_map (λ p. p.versions) (filter (λ p. bytes_eq p.target target) pins)

-- ---- what targets agree on

-- what targets have locked
abbrev pub locked_by : List Target → List (List ℕ × VersionParts)
locked_by targets = flat_map (λ t. versions_of t.lock.entries) targets

-- whether a target doesn't contradict a version of a name: it has no other one than one that equals it, as `1` and `1.0` do
abbrev pub agrees : List ℕ × VersionParts → Target → Bool
agrees pin target = option_map_or (same_version pin.1) (version_for (versions_of target.lock.entries) pin.0) true

-- whether versions lack a name, and none of the targets contradicts this version of it
abbrev pub is_agreed : List Target → List (List ℕ × VersionParts) → List ℕ × VersionParts → Bool
is_agreed targets versions pin = not (is_some (version_for versions pin.0)) && list_all (agrees pin) targets

-- versions with one more, where that is so
abbrev pub with_agreed : List Target → List (List ℕ × VersionParts) → List ℕ × VersionParts → List (List ℕ × VersionParts)
with_agreed targets versions pin = if is_agreed targets versions pin then insert_entry (slice_cmp nat_cmp) versions pin.0 pin.1 else versions

-- versions, and of the names that they lack what targets have locked, where none contradicts it
abbrev pub with_all_agreed : List Target → List (List ℕ × VersionParts) → List (List ℕ × VersionParts)
with_all_agreed targets versions = fold (with_agreed targets) versions (locked_by targets)
