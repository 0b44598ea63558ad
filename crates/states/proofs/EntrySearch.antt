-- An entry that is searched by halves, since names rise.
use Rattle.std.proofs.Common.{◌≡◌, ◌<◌, ◌≤◌, ◌+◌, ◌⊎◌, ℕ, zero, suc, true, List, [], ◌∷◌, Contains, Ordering, Option, Some, None, Less, Equal, Greater, length, get_or, refl, sym, ap, ◌∙◌, subst, inl, inr, arith}
use Rattle.std.proofs.lemmas.Bool.{and_parts}
use Rattle.std.proofs.lemmas.List.Sorted.{searchable_from_sorted}
use Rattle.std.proofs.lemmas.Map.Lookups.{exact_bytes}
use Rattle.std.specs.Cmp.{tied_itself}
use Rattle.std.specs.Cmp.Lexicographic.{nat_list_cmp_total, slice_cmp}
use Rattle.std.specs.List.Sorted.{IsNonDecreasingBy, IsPartitionPoint}
use Rattle.std.specs.Ordering.{is_lt, nat_cmp, ordering_index, ordering_reverse}
use Rattle.lists.specs.Rising.{rises}
use Rattle.pylock.specs.Locks.{are_entries}
use Rattle.pylock.specs.Packages.{EntryParts}
use Rattle.states.specs.State.{entry_on}
use Rattle.states.proofs.EntryFacts.{entry-from, entry-there, less-of}

-- two numbers stand in one order or the other
number-cases : (n m : ℕ) → (n < m) ⊎ (m ≤ n)
number-cases zero zero = inr (omega arith)
number-cases zero (suc m) = inl (omega arith)
number-cases (suc n) zero = inr (omega arith)
number-cases (suc n) (suc m) = elim (number-cases n m) [
  | inl l ↦ inl (omega arith)
  | inr g ↦ inr (omega arith)
]

-- how an entry stands to a name
abbrev pub stands : List ℕ → EntryParts → Ordering
stands name e = slice_cmp nat_cmp e.name name

-- an entry is below the next one
below-next : (entries : List EntryParts) (k n : ℕ) (d : EntryParts) → are_entries entries ≡ true → n ≡ k + 1 → n < length entries
    → is_lt (slice_cmp nat_cmp (get_or entries k d).name (get_or entries n d).name) ≡ true
unfolding rises
below-next [] k n d rise next more = absurd (omega (arith, more))
below-next (e ∷ []) k n d rise next more = absurd (omega (arith, next, more))
below-next (e ∷ f ∷ rest) k zero d rise next more = absurd (omega (arith, next))
below-next (e ∷ f ∷ rest) zero (suc zero) d rise next more = (and_parts (is_lt (slice_cmp nat_cmp e.name f.name)) _ rise).0
below-next (e ∷ f ∷ rest) zero (suc (suc n)) d rise next more = absurd (omega (arith, next))
below-next (e ∷ f ∷ rest) (suc k) (suc n) d rise next more =
    below-next (f ∷ rest) k n d (and_parts (is_lt (slice_cmp nat_cmp e.name f.name)) _ rise).1 (omega (arith, next)) (omega (arith, more))

-- so names of entries are as a search asks
pub searchable : (entries : List EntryParts) (name : List ℕ) → are_entries entries ≡ true → IsNonDecreasingBy (λ e. ordering_index (stands name e)) entries
searchable entries name rise = searchable_from_sorted nat_list_cmp_total (λ (e : EntryParts). e.name) entries name
    (λ k d low more. ap is_lt (nat_list_cmp_total.antisymm (get_or entries (k + 1) d).name (get_or entries k d).name ∙ ap ordering_reverse (less-of (get_or entries k d).name (get_or entries (k + 1) d).name (below-next entries k (k + 1) d rise refl more))))

-- what is found stands on the name
pub found-on : (entries : List EntryParts) (name : List ℕ) (e : EntryParts) → are_entries entries ≡ true → Contains entries e → stands name e ≡ Equal → Some e ≡ entry_on entries name
found-on entries name e rise there tie = sym (ap (entry_on entries) (sym (exact_bytes e.name name tie)) ∙ entry-there entries e rise there)

-- no entry stands on a name that isn't found
none-stands : (entries : List EntryParts) (name : List ℕ) (place : ℕ) (e : EntryParts) → IsPartitionPoint (λ x. stands name x ≡ Less) (λ x. stands name x ≡ Greater) entries place
    → Contains entries e → e.name ≡ name → ⊥
none-stands entries name place e parts there named =
    let tie : stands name e ≡ Equal = ap (λ n. slice_cmp nat_cmp n name) named ∙ tied_itself nat_list_cmp_total name in
    elim (number-cases there.0 place) [
      | inl l ↦ let k : stands name e ≡ Less = subst (λ x. stands name x ≡ Less) there.2 (parts.0 there.0 e (omega arith) l) in let c : Equal ≡ Less = sym tie ∙ k in cc
      | inr m ↦ let k : stands name e ≡ Greater = subst (λ x. stands name x ≡ Greater) there.2 (parts.1 there.0 e m there.1) in let c : Equal ≡ Greater = sym tie ∙ k in cc
    ]

none-at : (entries : List EntryParts) (name : List ℕ) (place : ℕ) (o : Option EntryParts) → IsPartitionPoint (λ x. stands name x ≡ Less) (λ x. stands name x ≡ Greater) entries place
    → entry_on entries name ≡ o → None ≡ o
none-at entries name place None parts found = refl
none-at entries name place (Some e) parts found = let k = entry-from entries name e found in absurd (none-stands entries name place e parts k.0 k.1)

pub none-on : (entries : List EntryParts) (name : List ℕ) (place : ℕ) → are_entries entries ≡ true
    → (IsNonDecreasingBy (λ e. ordering_index (stands name e)) entries → IsPartitionPoint (λ e. stands name e ≡ Less) (λ e. stands name e ≡ Greater) entries place) → None ≡ entry_on entries name
none-on entries name place rise point = none-at entries name place (entry_on entries name) (point (searchable entries name rise)) refl
