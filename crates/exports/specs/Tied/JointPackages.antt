-- Packages of several targets: which have an entry, and what is told of it.
-- Tied to `IsMarkedBy` by the contract of `joint_lock`; need not be read.
use Rattle.std.specs.Prelude.{◌≡◌, ◌↔◌, ◌==◌, ℕ, Bool, List, [], ◌∷◌, ◌++◌, codes, length, map, Option, Some, None, if◌then◌else◌}
use Rattle.std.specs.List.{AllByRecursion, Contains, flat_map, list_any}
use Rattle.pylock.specs.Packages.{EntryParts}
use Rattle.pylock.specs.declared.joint.JointPackage.{JointPackage}
use Rattle.pylock.specs.declared.joint.Reference.{Reference}
use Rattle.exports.specs.declared.cover.Cover.{Cover}

-- the entries of a target
abbrev pub entries_in : Cover → List EntryParts
entries_in cover = cover.target.lock.entries

-- its lock has an entry
abbrev pub HasEntry : Cover → EntryParts → Type 0
HasEntry cover e = Contains cover.target.lock.entries e

-- markers, joined by `or`
abbrev pub alternatives : List (List ℕ) → List ℕ
alternatives [] = []
alternatives (text ∷ texts) = text ++ flat_map (λ next. codes " or " ++ next) texts

-- a text is the marker of a target that has an entry
pub record IsMarkerWith (covers : List Cover) (e : EntryParts) (text : List ℕ) : Type 0 where
  pub cover : Cover
  pub there : Contains covers cover
  pub has : HasEntry cover e
  pub marker : cover.marker ≡ text

-- the markers of exactly the targets that have an entry
abbrev pub AreMarkersWith : List Cover → EntryParts → List (List ℕ) → Type 0
AreMarkersWith covers e texts = (text : List ℕ) → Contains texts text ↔ IsMarkerWith covers e text

-- all targets have an entry
abbrev pub AllHave : List Cover → EntryParts → Type 0
AllHave covers e = AllByRecursion (λ cover. HasEntry cover e) covers

-- some target lacks it
abbrev pub SomeLacks : List Cover → EntryParts → Type 0
SomeLacks covers e = (cover : Cover) × Contains covers cover × (HasEntry cover e → ⊥)

-- the marker of an entry: none if all targets have it, else those of the targets that have it, joined by `or`
pub record IsJoined (covers : List Cover) (e : EntryParts) (text : List ℕ) : Type 0 where
  pub lacks : SomeLacks covers e
  pub texts : List (List ℕ)
  pub are : AreMarkersWith covers e texts
  pub told : text ≡ alternatives texts

abbrev pub IsMarked : List Cover → EntryParts → Option (List ℕ) → Type 0
IsMarked covers e None = AllHave covers e
IsMarked covers e (Some text) = IsJoined covers e text

-- references are on these names, and each name has one
abbrev pub AreOn : List (List ℕ) → List Reference → Type 0
AreOn names needs = (name : List ℕ) → Contains (map (λ (r : Reference). r.name) needs) name ↔ Contains names name

-- what is told of a package beside its entry
pub record IsPackageOf (covers : List Cover) (p : JointPackage) : Type 0 where
  pub marked : IsMarked covers p.entry p.marker
  pub needs : AreOn p.entry.dependencies p.needs

-- more references behind others, all on one name
pub record Refers (name : List ℕ) (old new : List Reference) : Type 0 where
  pub more : List Reference
  pub are : new ≡ old ++ more
  pub named : AllByRecursion (λ r. r.name ≡ name) more

-- a target asks nothing of its environment
abbrev pub asks_nothing : Cover → Bool
asks_nothing cover = length cover.conditions == 0

-- the texts of `environments`: none if a target asks nothing
abbrev pub environments_told : List Cover → List (List ℕ)
environments_told covers = if list_any asks_nothing covers then [] else map (λ cover. cover.marker) covers

-- the packages have each entry of a target, and no other, and each is told as it should be
pub record HoldsOf (covers : List Cover) (packages : List JointPackage) : Type 0 where
  pub members : (e : EntryParts) → Contains (flat_map entries_in covers) e ↔ Contains (map (λ p. p.entry) packages) e
  pub lawful : AllByRecursion (IsPackageOf covers) packages
