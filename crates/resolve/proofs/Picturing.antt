-- Numbers that stand for names, nodes and requirements, put together as a picture.
use Rattle.std.proofs.Common.{◌≡◌, ◌<◌, ◌≤◌, ◌⊎◌, inl, inr, ℕ, zero, suc, List, [], ◌∷◌, ◌∙◌, ◌+◌, Contains, true, Some, None, Less, Equal, Greater, length, get_or, map, nat_lt, refl, sym, ap, subst, arith}
use Rattle.std.proofs.lemmas.Bool.{lt-ltb}
use Rattle.std.proofs.lemmas.List.Sorted.{searchable_from_sorted}
use Rattle.std.proofs.lemmas.Map.Keys.{Less-from_sorted}
use Rattle.std.proofs.lemmas.Map.Lookups.{exact_bytes}
use Rattle.std.proofs.lemmas.Map.Text.{is_eq-slice_cmp}
use Rattle.std.proofs.lemmas.Option.{get_or_from_slice_get, slice_get-get_or, slice_get_within}
use Rattle.std.specs.Cmp.{Equal-is, nat_cmp_total, tied_itself}
use Rattle.std.specs.Cmp.Lexicographic.{nat_list_cmp_total, slice_cmp}
use Rattle.std.specs.List.{AllZip, list_all, slice_get}
use Rattle.std.specs.List.Sorted.{IsNonDecreasingBy, IsPartitionPoint, IsSortedBy, IsStrictlySortedBy}
use Rattle.std.specs.Str.{bytes_eq}
use Rattle.std.specs.Ordering.{is_lt, nat_cmp, ordering_index, ordering_reverse}
use Rattle.problems.specs.Tied.Standing.{AllStand, Stands}

-- what numbers stand for is what is read at them
pub AllStand-map : {A : Type 0} (xs : List A) (numbers : List ℕ) (ys : List A) (d : A) → AllStand xs numbers ys → ys ≡ map (λ n. get_or xs n d) numbers
AllStand-map xs [] [] d all = refl
AllStand-map xs [] (y ∷ ys) d all = absurd all
AllStand-map xs (n ∷ ns) [] d all = absurd all
AllStand-map xs (n ∷ ns) (y ∷ ys) d all = ap (λ z. z ∷ ys) (sym (get_or_from_slice_get xs n y d all.0)) ∙ ap (λ zs. get_or xs n d ∷ zs) (AllStand-map xs ns ys d all.1)

below : (n bound : ℕ) → n < bound → nat_lt n bound ≡ true
below n bound within = lt-ltb n bound within

-- numbers that stand for something are within
pub AllStand-below : {A : Type 0} (xs : List A) (numbers : List ℕ) (ys : List A) (bound : ℕ) → length xs ≡ bound → AllStand xs numbers ys → list_all (λ n. nat_lt n bound) numbers ≡ true
AllStand-below xs [] [] bound long all = refl
AllStand-below xs [] (y ∷ ys) bound long all = absurd all
AllStand-below xs (n ∷ ns) [] bound long all = absurd all
AllStand-below xs (n ∷ ns) (y ∷ ys) bound long all = rw (below n bound (subst (λ b. n < b) long (slice_get_within xs n y all.0))) (AllStand-below xs ns ys bound long all.1)

-- two lists beside each other, at one place
pub AllZip-at : {A B : Type 0} (R : A → B → Type 0) (xs : List A) (ys : List B) (n : ℕ) (x : A) (y : B) → AllZip R xs ys → slice_get xs n ≡ Some x → slice_get ys n ≡ Some y → R x y
AllZip-at R [] ys n x y all left right = absurd (let k : None ≡ Some x = left in cc)
AllZip-at R (a ∷ xs) [] n x y all left right = absurd all
AllZip-at R (a ∷ xs) (b ∷ ys) zero x y all left right = let k : a ≡ x = cc in let l : b ≡ y = cc in subst (λ z. R z y) k (subst (λ z. R a z) l all.0)
AllZip-at R (a ∷ xs) (b ∷ ys) (suc n) x y all left right = AllZip-at R xs ys n x y all.1 left right

pub AllZip-length : {A B : Type 0} (R : A → B → Type 0) (xs : List A) (ys : List B) → AllZip R xs ys → length xs ≡ length ys
AllZip-length R [] [] all = refl
AllZip-length R [] (y ∷ ys) all = absurd all
AllZip-length R (x ∷ xs) [] all = absurd all
AllZip-length R (x ∷ xs) (y ∷ ys) all = ap suc (AllZip-length R xs ys all.1)

-- ---- names in order

abbrev pub Rising : List (List ℕ) → Type 0
Rising names = IsStrictlySortedBy (slice_cmp nat_cmp) names

number-cases : (a b : ℕ) → (a < b) ⊎ ((a ≡ b) ⊎ (b < a))
number-cases zero zero = inr (inl refl)
number-cases zero (suc b) = inl (omega arith)
number-cases (suc a) zero = inr (inr (omega arith))
number-cases (suc a) (suc b) = elim (number-cases a b) [
  | inl l ↦ inl (omega arith)
  | inr r ↦ elim r [ inl e ↦ inr (inl (ap suc e)) | inr g ↦ inr (inr (omega arith)) ]
]

pub nat_cmp-less : (n m : ℕ) → n < m → nat_cmp n m ≡ Less
nat_cmp-less n m l = rw (lt-ltb n m l) refl

nat_cmp-greater : (n m : ℕ) → m < n → nat_cmp n m ≡ Greater
nat_cmp-greater n m l = nat_cmp_total.antisymm n m ∙ ap ordering_reverse (nat_cmp-less m n l)

greater-from_less : (a b : List ℕ) → slice_cmp nat_cmp b a ≡ Less → slice_cmp nat_cmp a b ≡ Greater
greater-from_less a b less = nat_list_cmp_total.antisymm a b ∙ ap ordering_reverse less

-- names are ordered as their places
pub order-places : (names : List (List ℕ)) (n m : ℕ) → Rising names → n < length names → m < length names → slice_cmp nat_cmp (get_or names n []) (get_or names m []) ≡ nat_cmp n m
order-places names n m rising left right = elim (number-cases n m) [
  | inl l ↦ Less-from_sorted (slice_cmp nat_cmp) names n m [] rising l right ∙ sym (nat_cmp-less n m l)
  | inr r ↦ elim r [
    | inl e ↦ subst (λ k. slice_cmp nat_cmp (get_or names n []) (get_or names k []) ≡ nat_cmp n k) e (tied_itself nat_list_cmp_total (get_or names n []) ∙ sym (tied_itself nat_cmp_total n))
    | inr g ↦ greater-from_less (get_or names n []) (get_or names m []) (Less-from_sorted (slice_cmp nat_cmp) names m n [] rising g left) ∙ sym (nat_cmp-greater n m g)
  ]
]

not-twice : (names : List (List ℕ)) (n m : ℕ) (name : List ℕ) → Rising names → n < m → Stands names n name → Stands names m name → ⊥
not-twice names n m name rising l at too =
    let less : slice_cmp nat_cmp (get_or names n []) (get_or names m []) ≡ Less = Less-from_sorted (slice_cmp nat_cmp) names n m [] rising l (slice_get_within names m name too) in
    let one : slice_cmp nat_cmp name name ≡ Less = subst (λ x. slice_cmp nat_cmp x name ≡ Less) (get_or_from_slice_get names n name [] at) (subst (λ x. slice_cmp nat_cmp (get_or names n []) x ≡ Less) (get_or_from_slice_get names m name [] too) less) in
    let tie : slice_cmp nat_cmp name name ≡ Equal = tied_itself nat_list_cmp_total name in
    let k : Equal ≡ Less = sym tie ∙ one in cc

-- a name stands at one place
pub place-once : (names : List (List ℕ)) (n m : ℕ) (name : List ℕ) → Rising names → Stands names n name → Stands names m name → n ≡ m
place-once names n m name rising at too = elim (number-cases n m) [
  | inl l ↦ absurd (not-twice names n m name rising l at too)
  | inr r ↦ elim r [ inl e ↦ e | inr g ↦ absurd (not-twice names m n name rising g too at) ]
]

-- what a search of the names finds
pub found-stands : (names : List (List ℕ)) (n : ℕ) (name : List ℕ) → n < length names → slice_cmp nat_cmp (get_or names n name) name ≡ Equal → Stands names n name
found-stands names n name within tie = subst (λ x. slice_get names n ≡ Some x) (exact_bytes (get_or names n name) name tie) (slice_get-get_or names n name within)

sorted-names : (names : List (List ℕ)) → Rising names → IsSortedBy (λ a b. is_lt (slice_cmp nat_cmp a b)) names
sorted-names names rising k d low more = ap is_lt (greater-from_less (get_or names (k + 1) d) (get_or names k d) (Less-from_sorted (slice_cmp nat_cmp) names k (k + 1) d rising (omega arith) more))

-- a name that is there is found
pub found-there : (names : List (List ℕ)) (i : ℕ) (name : List ℕ) → Rising names → Contains names name
    → (IsNonDecreasingBy (λ y. ordering_index (slice_cmp nat_cmp y name)) names → IsPartitionPoint (λ y. slice_cmp nat_cmp y name ≡ Less) (λ y. slice_cmp nat_cmp y name ≡ Greater) names i) → ⊥
found-there names i name rising there point =
    let parts = point (searchable_from_sorted nat_list_cmp_total (λ (x : List ℕ). x) names name (sorted-names names rising)) in
    let tie : slice_cmp nat_cmp name name ≡ Equal = tied_itself nat_list_cmp_total name in
    elim (number-cases there.0 i) [
      | inl l ↦ let k : slice_cmp nat_cmp name name ≡ Less = subst (λ x. slice_cmp nat_cmp x name ≡ Less) there.2 (parts.0 there.0 name (omega arith) l) in let c : Equal ≡ Less = sym tie ∙ k in cc
      | inr r ↦ let m : i ≤ there.0 = elim r [ inl e ↦ omega arith | inr g ↦ omega arith ] in
          let k : slice_cmp nat_cmp name name ≡ Greater = subst (λ x. slice_cmp nat_cmp x name ≡ Greater) there.2 (parts.1 there.0 name m there.1) in let c : Equal ≡ Greater = sym tie ∙ k in cc
    ]

-- equal bytes are the same
pub same-bytes : (x y : List ℕ) → bytes_eq x y ≡ true → x ≡ y
same-bytes x y h = exact_bytes x y ((Equal-is (slice_cmp nat_cmp x y)).0 (is_eq-slice_cmp x y ∙ h))
