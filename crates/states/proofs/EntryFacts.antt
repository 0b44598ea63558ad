-- Entries that are looked up by their names.
use Rattle.std.proofs.Common.{◌≡◌, ℕ, true, List, [], ◌∷◌, Contains, Some, Less, Equal, Greater, Ordering, map, refl, sym, ap, ◌∙◌, subst, inl, inr}
use Rattle.std.proofs.lemmas.Bool.{and_parts, cases_Bool}
use Rattle.std.proofs.lemmas.Slice.Eq.{bytes_eq-Decides}
use Rattle.std.specs.Cmp.Lexicographic.{nat_list_cmp_total, slice_cmp}
use Rattle.std.specs.Ordering.{is_lt, nat_cmp, ordering_reverse}
use Rattle.std.specs.Str.{bytes_eq}
use Rattle.pylock.specs.Locks.{are_entries}
use Rattle.pylock.specs.Order.{rises}
use Rattle.pylock.specs.Packages.{EntryParts}
use Rattle.states.specs.State.{entry_on}
use Rattle.lists.proofs.Members.{Contains-cons_cases, Contains-here, Contains-map_of, Contains-nil, Contains-there}

-- an entry that is found is one of the entries, on its name
pub entry-from : (entries : List EntryParts) (name : List ℕ) (e : EntryParts) → entry_on entries name ≡ Some e → Contains entries e × (e.name ≡ name)
entry-from [] name e is = absurd (cc is)
entry-from (x ∷ rest) name e is = elim (cases_Bool (bytes_eq name x.name)) [
  | inl same ↦
      let this : x ≡ e = cc (rw same at is) in
      (subst (λ (y : EntryParts). Contains (x ∷ rest) y) this (Contains-here x rest), ap (λ (y : EntryParts). y.name) (sym this) ∙ sym ((bytes_eq-Decides name x.name).0 same))
  | inr other ↦
      let more = entry-from rest name e (rw other at is) in
      (Contains-there x rest e more.0, more.1)
]

is-less : (o : Ordering) → is_lt o ≡ true → o ≡ Less
is-less Less is = refl
is-less Equal is = cc is
is-less Greater is = cc is

-- nothing is below itself
pub not-below : (n : List ℕ) → slice_cmp nat_cmp n n ≡ Less → ⊥
not-below n less =
    let back : slice_cmp nat_cmp n n ≡ ordering_reverse (slice_cmp nat_cmp n n) = nat_list_cmp_total.antisymm n n in
    let other : Less ≡ Greater = sym less ∙ back ∙ ap ordering_reverse less in
    cc other

pub less-of : (a b : List ℕ) → is_lt (slice_cmp nat_cmp a b) ≡ true → slice_cmp nat_cmp a b ≡ Less
less-of a b is = is-less (slice_cmp nat_cmp a b) is

-- names that rise are above the first
pub rises-above : (n : List ℕ) (names : List (List ℕ)) (m : List ℕ) → rises (n ∷ names) ≡ true → Contains names m → slice_cmp nat_cmp n m ≡ Less
unfolding rises
rises-above n [] m rise there = absurd (Contains-nil m there)
rises-above n (k ∷ rest) m rise there =
    let parts = and_parts (is_lt (slice_cmp nat_cmp n k)) (rises (k ∷ rest)) rise in
    let first = less-of n k parts.0 in
    elim (Contains-cons_cases k rest m there) [
      | inl same ↦ subst (λ (x : List ℕ). slice_cmp nat_cmp n x ≡ Less) same first
      | inr more ↦ nat_list_cmp_total.trans n k m first (rises-above k rest m parts.1 more)
    ]

pub rises-rest : (n : List ℕ) (names : List (List ℕ)) → rises (n ∷ names) ≡ true → rises names ≡ true
unfolding rises
rises-rest n [] rise = refl
rises-rest n (k ∷ rest) rise = (and_parts (is_lt (slice_cmp nat_cmp n k)) (rises (k ∷ rest)) rise).1

-- an entry is found on its name, since no other one has it
pub entry-there : (entries : List EntryParts) (e : EntryParts) → are_entries entries ≡ true → Contains entries e → entry_on entries e.name ≡ Some e
entry-there [] e rise there = absurd (Contains-nil e there)
entry-there (x ∷ rest) e rise there = elim (Contains-cons_cases x rest e there) [
  | inl same ↦
      let own : bytes_eq e.name x.name ≡ true = (bytes_eq-Decides e.name x.name).1 (ap (λ (y : EntryParts). y.name) (sym same)) in
      rw own (ap Some same)
  | inr more ↦ elim (cases_Bool (bytes_eq e.name x.name)) [
    | inl twice ↦
        let below = rises-above x.name (map (λ p. p.name) rest) e.name rise (Contains-map_of (λ (p : EntryParts). p.name) rest e more) in
        let same : e.name ≡ x.name = (bytes_eq-Decides e.name x.name).0 twice in
        absurd (not-below x.name (subst (λ (n : List ℕ). slice_cmp nat_cmp x.name n ≡ Less) same below))
    | inr other ↦ rw other (entry-there rest e (rises-rest x.name (map (λ p. p.name) rest) rise) more)
  ]
]
