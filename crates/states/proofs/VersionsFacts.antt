-- The versions of entries, put into a map in the order of their names.
use Rattle.std.proofs.Common.{◌≡◌, ◌++◌, ◌+◌, ◌<◌, ℕ, zero, suc, List, [], ◌∷◌, Contains, Less, Greater, length, take, get_or, map, true, refl, sym, ap, ◌∙◌, subst, inl, inr, arith}
use Rattle.std.proofs.lemmas.List.{map-append, take_more}
use Rattle.std.proofs.lemmas.List.Elements.{Contains-get_or}
use Rattle.std.proofs.lemmas.Bool.{cases_Bool}
use Rattle.std.specs.BTreeMap.{insert_entry}
use Rattle.std.specs.Cmp.Lexicographic.{nat_list_cmp_total, slice_cmp}
use Rattle.std.specs.Option.{option_map}
use Rattle.std.specs.Ordering.{nat_cmp, ordering_reverse}
use Rattle.std.specs.Str.{bytes_eq}
use Rattle.pep440.specs.Version.{VersionParts}
use Rattle.pylock.specs.Locks.{are_entries}
use Rattle.pylock.specs.Packages.{EntryParts}
use Rattle.problems.specs.Solutions.{version_for}
use Rattle.states.specs.State.{entry_on}
use Rattle.states.specs.Locks.{versions_of}
use Rattle.states.proofs.EntryFacts.{rises-above, rises-rest}
use Rattle.lists.proofs.Members.{Contains-cons_cases, Contains-here, Contains-map_of, Contains-nil, Contains-there}

-- entries before a place are below the one there
below-at : (entries : List EntryParts) (place : ℕ) (d : EntryParts) → are_entries entries ≡ true → place < length entries → (x : EntryParts) → Contains (take place entries) x
    → slice_cmp nat_cmp x.name (get_or entries place d).name ≡ Less
below-at [] place d rise within x there = absurd (omega arith)
below-at (y ∷ rest) zero d rise within x there = absurd (Contains-nil x there)
below-at (y ∷ rest) (suc place) d rise within x there = elim (Contains-cons_cases y (take place rest) x there) [
  | inl same ↦ subst (λ (z : EntryParts). slice_cmp nat_cmp z.name (get_or rest place d).name ≡ Less) same
      (rises-above y.name (map (λ p. p.name) rest) (get_or rest place d).name rise (Contains-map_of (λ (p : EntryParts). p.name) rest (get_or rest place d) (Contains-get_or rest place d (omega arith))))
  | inr more ↦ below-at rest place d (rises-rest y.name (map (λ p. p.name) rest) rise) (omega arith) x more
]

-- a name above all others goes last
insert-last : (entries : List EntryParts) (e : EntryParts) → ((x : EntryParts) → Contains entries x → slice_cmp nat_cmp x.name e.name ≡ Less)
    → insert_entry (slice_cmp nat_cmp) (versions_of entries) e.name e.version ≡ versions_of entries ++ (e.name, e.version) ∷ []
insert-last [] e below = refl
insert-last (x ∷ rest) e below =
    let above : slice_cmp nat_cmp e.name x.name ≡ Greater = nat_list_cmp_total.antisymm e.name x.name ∙ ap ordering_reverse (below x (Contains-here x rest)) in
    rw above (ap (λ (l : List (List ℕ × VersionParts)). (x.name, x.version) ∷ l) (insert-last rest e (λ y there. below y (Contains-there x rest y there))))

pub versions-more : (entries : List EntryParts) (place : ℕ) (e : EntryParts) → are_entries entries ≡ true → place < length entries → e ≡ get_or entries place e
    → insert_entry (slice_cmp nat_cmp) (versions_of (take place entries)) e.name e.version ≡ versions_of (take (place + 1) entries)
versions-more entries place e rise within is =
    let below : (x : EntryParts) → Contains (take place entries) x → slice_cmp nat_cmp x.name e.name ≡ Less = λ x there.
    subst (λ (z : EntryParts). slice_cmp nat_cmp x.name z.name ≡ Less) (sym is) (below-at entries place e rise within x there) in
    let more : take (place + 1) entries ≡ take place entries ++ e ∷ [] = take_more entries place e within ∙ ap (λ (z : EntryParts). take place entries ++ z ∷ []) (sym is) in
    insert-last (take place entries) e below ∙ sym (map-append (λ (p : EntryParts). (p.name, p.version)) (take place entries) (e ∷ [])) ∙ ap versions_of (sym more)

-- the version of a name is that of its entry
pub version-at : (entries : List EntryParts) (name : List ℕ) → option_map (λ e. e.version) (entry_on entries name) ≡ version_for (versions_of entries) name
version-at [] name = refl
version-at (e ∷ rest) name = elim (cases_Bool (bytes_eq name e.name)) [
  | inl is ↦ rw is refl
  | inr other ↦ rw other (version-at rest name)
]
