-- Entries of a lock by their names.
use Rattle.std.proofs.Common.{◌≡◌, ℕ, List, Option, Some, None, Contains, refl, ap}
use Rattle.std.proofs.lemmas.Map.Views.{Contains-from_lookup, IsSome-lookup_from_Contains}
use Rattle.std.proofs.lemmas.Slice.Eq.{bytes_eq-Decides}
use Rattle.std.specs.Cmp.Lexicographic.{nat_list_eq_equiv}
use Rattle.std.specs.Option.{IsSome}
use Rattle.pep440.specs.Version.{VersionParts}
use Rattle.pylock.specs.Packages.{EntryParts}
use Rattle.problems.specs.Solutions.{version_for}
use Rattle.states.specs.Locks.{versions_of}
use Rattle.lists.proofs.Members.{Contains-map, Contains-map_of}

-- an entry of a name, with its version
pub record Has (entries : List EntryParts) (name : List ℕ) (version : VersionParts) : Type 0 where
  pub entry : EntryParts
  pub there : Contains entries entry
  pub named : entry.name ≡ name
  pub versioned : entry.version ≡ version

-- a name with a version has an entry
pub Has-from : (entries : List EntryParts) (name : List ℕ) (version : VersionParts) → version_for (versions_of entries) name ≡ Some version → Has entries name version
Has-from entries name version e =
    let there = Contains-from_lookup (λ x y. (bytes_eq-Decides x y).0) name version (versions_of entries) e in
    let k = Contains-map (λ (p : EntryParts). (p.name, p.version)) entries (name, version) there in
    record { entry = k.0; there = k.1; named = ap (λ (p : List ℕ × VersionParts). p.0) k.2; versioned = ap (λ (p : List ℕ × VersionParts). p.1) k.2 }

found : {X : Type 0} (o : Option X) → IsSome o → (x : X) × (o ≡ Some x)
found None some = absurd cc
found (Some x) some = (x, refl)

-- the name of an entry has a version
pub version-there : (entries : List EntryParts) (e : EntryParts) → Contains entries e → (version : VersionParts) × (version_for (versions_of entries) e.name ≡ Some version)
version-there entries e there =
    let pair = Contains-map_of (λ (p : EntryParts). (p.name, p.version)) entries e there in
    let name = Contains-map_of (λ (p : List ℕ × VersionParts). p.0) (versions_of entries) (e.name, e.version) pair in
    found _ (IsSome-lookup_from_Contains nat_list_eq_equiv e.name (versions_of entries) name)
