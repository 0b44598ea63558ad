-- The changes of one target, which stand together.
use Rattle.std.proofs.Common.{◌≡◌, ◌≤◌, ◌<◌, ◌+◌, ℕ, zero, suc, Bool, true, false, not, ltb, List, [], ◌∷◌, Ordering, Less, Equal, Greater, length, get_or, take, drop, filter, refl, sym, ap, ◌∙◌, subst, inl, inr, arith}
use Rattle.std.proofs.lemmas.Bool.{and_parts, cases_Bool}
use Rattle.std.proofs.lemmas.List.Kept.{IsNonDecreasingBy-filter}
use Rattle.std.proofs.lemmas.List.Sorted.{IsPartitionedBy-ltb, searchable_from_sorted}
use Rattle.std.proofs.lemmas.Slice.Eq.{bytes_eq-Decides}
use Rattle.std.proofs.lemmas.Map.Text.{is_eq-slice_cmp}
use Rattle.std.specs.Ordering.{is_eq, is_le, is_lt, nat_cmp, ordering_index, ordering_reverse, ordering_then}
use Rattle.std.specs.Cmp.Lexicographic.{nat_list_cmp_total, slice_cmp}
use Rattle.std.specs.List.Sorted.{IsNonDecreasingBy, IsPartitionPoint, IsPartitionedBy}
use Rattle.std.specs.Str.{bytes_eq}
use Rattle.changes.specs.Changes.{changes_on, entry_change_cmp, rise_by_target}
use Rattle.changes.specs.declared.change.parts.EntryChange.{EntryChange}

-- ---- items in front of the place where a test ends

module _ {X : Type 0} (p : X → Bool) where
  abbrev IsPoint : List X → ℕ → Type 0
  IsPoint xs i = IsPartitionPoint (λ x. p x ≡ true) (λ x. p x ≡ false) xs i

  none-pass : (xs : List X) → ((k : ℕ) (d : X) → 0 ≤ k → k < length xs → p (get_or xs k d) ≡ false) → filter p xs ≡ []
  none-pass [] fails = refl
  none-pass (x ∷ xs) fails =
      let here : p x ≡ false = fails 0 x (omega arith) (omega arith) in
      rw here (none-pass xs (λ k d low high. fails (suc k) d (omega arith) (omega arith)))

  pub point-front : (xs : List X) (i : ℕ) → i ≤ length xs → IsPoint xs i → take i xs ≡ filter p xs
  point-front [] zero within parts = refl
  point-front [] (suc i) within parts = refl
  point-front (x ∷ xs) zero within parts = sym (none-pass (x ∷ xs) parts.1)
  point-front (x ∷ xs) (suc i) within parts =
      let here : p x ≡ true = parts.0 0 x (omega arith) (omega arith) in
      rw here (ap (λ (l : List X). x ∷ l) (point-front xs i (omega arith)
      (λ k d low high. parts.0 (suc k) d (omega arith) (omega arith), λ k d low high. parts.1 (suc k) d (omega arith) (omega arith))))

  all-fail : (xs : List X) → ((k : ℕ) (d : X) → 0 ≤ k → k < length xs → p (get_or xs k d) ≡ false) → filter (λ x. not (p x)) xs ≡ xs
  all-fail [] fails = refl
  all-fail (x ∷ xs) fails =
      let here : p x ≡ false = fails 0 x (omega arith) (omega arith) in
      rw here (ap (λ (l : List X). x ∷ l) (all-fail xs (λ k d low high. fails (suc k) d (omega arith) (omega arith))))

  pub point-behind : (xs : List X) (i : ℕ) → i ≤ length xs → IsPoint xs i → drop i xs ≡ filter (λ x. not (p x)) xs
  point-behind [] zero within parts = refl
  point-behind [] (suc i) within parts = refl
  point-behind (x ∷ xs) zero within parts = sym (all-fail (x ∷ xs) parts.1)
  point-behind (x ∷ xs) (suc i) within parts =
      let here : p x ≡ true = parts.0 0 x (omega arith) (omega arith) in
      rw here (point-behind xs i (omega arith)
      (λ k d low high. parts.0 (suc k) d (omega arith) (omega arith), λ k d low high. parts.1 (suc k) d (omega arith) (omega arith)))

-- ---- the changes of one target

-- how a change stands to a target
abbrev pub stands : List ℕ → EntryChange → Ordering
stands target c = slice_cmp nat_cmp c.target target

-- a change comes before the next one
next-rises : (changes : List EntryChange) (k n : ℕ) (d : EntryChange) → rise_by_target changes ≡ true → n ≡ k + 1 → n < length changes
    → is_lt (entry_change_cmp (get_or changes k d) (get_or changes n d)) ≡ true
unfolding rise_by_target
next-rises [] k n d rise next more = absurd (omega (arith, more))
next-rises (c ∷ []) k n d rise next more = absurd (omega (arith, next, more))
next-rises (c ∷ e ∷ rest) k zero d rise next more = absurd (omega (arith, next))
next-rises (c ∷ e ∷ rest) zero (suc zero) d rise next more = (and_parts (is_lt (entry_change_cmp c e)) _ rise).0
next-rises (c ∷ e ∷ rest) zero (suc (suc n)) d rise next more = absurd (omega (arith, next))
next-rises (c ∷ e ∷ rest) (suc k) (suc n) d rise next more =
    next-rises (e ∷ rest) k n d (and_parts (is_lt (entry_change_cmp c e)) _ rise).1 (omega (arith, next)) (omega (arith, more))

-- so its target isn't above that of the next
not-above : (a b : List ℕ) (o p : Ordering) → slice_cmp nat_cmp a b ≡ o → is_lt (ordering_then o p) ≡ true → is_lt (slice_cmp nat_cmp b a) ≡ false
not-above a b Less p is less = ap is_lt (nat_list_cmp_total.antisymm b a ∙ ap ordering_reverse is)
not-above a b Equal p is less = ap is_lt (nat_list_cmp_total.antisymm b a ∙ ap ordering_reverse is)
not-above a b Greater p is less = absurd (cc less)

searchable : (changes : List EntryChange) (target : List ℕ) → rise_by_target changes ≡ true → IsNonDecreasingBy (λ c. ordering_index (stands target c)) changes
searchable changes target rise = searchable_from_sorted nat_list_cmp_total (λ (c : EntryChange). c.target) changes target
    (λ k d low more. not-above (get_or changes k d).target (get_or changes (k + 1) d).target _ (slice_cmp nat_cmp (get_or changes k d).name (get_or changes (k + 1) d).name) refl (next-rises changes k (k + 1) d rise refl more))

index-lt : (o : Ordering) → ltb (ordering_index o) 1 ≡ is_lt o
index-lt Less = refl
index-lt Equal = refl
index-lt Greater = refl

index-le : (o : Ordering) → ltb (ordering_index o) 2 ≡ is_le o
index-le Less = refl
index-le Equal = refl
index-le Greater = refl

pub parted-before : (changes : List EntryChange) (target : List ℕ) → rise_by_target changes ≡ true → IsPartitionedBy (λ c. is_lt (stands target c)) changes
parted-before changes target rise = subst (λ (p : EntryChange → Bool). IsPartitionedBy p changes) (λ i c. index-lt (stands target c) i)
    (IsPartitionedBy-ltb (λ (c : EntryChange). ordering_index (stands target c)) changes 1 (searchable changes target rise))

-- what isn't before the target
abbrev rest_of : List ℕ → List EntryChange → List EntryChange
rest_of target changes = filter (λ c. not (is_lt (stands target c))) changes

pub parted-rest : (changes rest : List EntryChange) (target : List ℕ) → rest ≡ rest_of target changes → rise_by_target changes ≡ true → IsPartitionedBy (λ c. is_le (stands target c)) rest
parted-rest changes rest target is rise =
    let number : EntryChange → ℕ = λ c. ordering_index (stands target c) in
    let up = IsNonDecreasingBy-filter number (λ (c : EntryChange). not (is_lt (stands target c))) changes (searchable changes target rise) in
    subst (λ (l : List EntryChange). IsPartitionedBy (λ c. is_le (stands target c)) l) (sym is)
    (subst (λ (p : EntryChange → Bool). IsPartitionedBy p (rest_of target changes)) (λ i c. index-le (stands target c) i) (IsPartitionedBy-ltb number (rest_of target changes) 2 up))

-- a name that is neither before a target nor behind it is the target
same-order : (target name : List ℕ) → bytes_eq target name ≡ is_eq (slice_cmp nat_cmp name target)
same-order target name = elim (cases_Bool (bytes_eq target name)) [
  | inl same ↦ same ∙ sym (is_eq-slice_cmp name target ∙ (bytes_eq-Decides name target).1 (sym ((bytes_eq-Decides target name).0 same)))
  | inr other ↦ other ∙ sym (is_eq-slice_cmp name target ∙ other-back target name other)
]
  where
    other-back : (a b : List ℕ) → bytes_eq a b ≡ false → bytes_eq b a ≡ false
    other-back a b other = elim (cases_Bool (bytes_eq b a)) [
      | inl same ↦ absurd (let is = (bytes_eq-Decides a b).1 (sym ((bytes_eq-Decides b a).0 same)) in cc)
      | inr is ↦ is
    ]

own-first : (c : EntryChange) (rest : List EntryChange) (target : List ℕ) (o : Ordering) → stands target c ≡ o
    → filter (λ e. is_le (stands target e)) (rest_of target rest) ≡ changes_on target rest
    → filter (λ e. is_le (stands target e)) (rest_of target (c ∷ rest)) ≡ changes_on target (c ∷ rest)
own-first c rest target Less is more = rw (same-order target c.target, is) more
own-first c rest target Equal is more = rw (same-order target c.target, is) (rw is (ap (λ (l : List EntryChange). c ∷ l) more))
own-first c rest target Greater is more = rw (same-order target c.target, is) (rw is more)

own-rest : (changes : List EntryChange) (target : List ℕ) → filter (λ c. is_le (stands target c)) (rest_of target changes) ≡ changes_on target changes
own-rest [] target = refl
own-rest (c ∷ rest) target = own-first c rest target (stands target c) refl (own-rest rest target)

-- the changes up to the target of those that aren't before it are its own
pub own-are : (changes rest : List EntryChange) (target : List ℕ) (own : ℕ) → rest ≡ rest_of target changes → own ≤ length rest
    → IsPartitionPoint (λ c. is_le (stands target c) ≡ true) (λ c. is_le (stands target c) ≡ false) rest own → take own rest ≡ changes_on target changes
own-are changes rest target own is within parts =
    point-front (λ (c : EntryChange). is_le (stands target c)) rest own within parts
    ∙ ap (λ (l : List EntryChange). filter (λ c. is_le (stands target c)) l) is ∙ own-rest changes target
