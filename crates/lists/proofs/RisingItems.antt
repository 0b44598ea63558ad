-- Lists in order, item by item.
use Rattle.std.proofs.Common.{◌≡◌, ℕ, ◌+◌, ◌-◌, ◌<◌, ◌≤◌, ◌&&◌, true, false, List, [], ◌∷◌, length, get_or, drop, map, refl, sym, ap, ◌∙◌, arith, nat_cmp, inl, inr}
use Rattle.std.proofs.lemmas.Bool.{cases_Bool}
use Rattle.std.proofs.lemmas.List.{at_drop_more, drop_more, drop_all, length-map}
use Rattle.std.proofs.Math.ListN.{get_or-map}
use Rattle.std.specs.Prelude.{nat_lt}
use Rattle.std.proofs.lemmas.Bool.Decides.{nat_tests}
use Rattle.std.specs.Cmp.Lexicographic.{slice_cmp}
use Rattle.std.specs.Ordering.{is_lt}
use Rattle.lists.specs.Rising.{rises}

-- the text at a place, and the one before it
texts-step : (ts : List (List ℕ)) (i : ℕ) (t u : List ℕ) → 1 ≤ i → i < length ts → t ≡ get_or ts (i - 1) t → u ≡ get_or ts i u
    → rises (drop (i - 1) ts) ≡ (is_lt (slice_cmp nat_cmp t u) && rises (drop i ts))
unfolding rises
texts-step ts i t u one within before here =
    let next : i - 1 + 1 ≡ i = omega arith in
    let rest : drop i ts ≡ u ∷ drop (i + 1) ts = drop_more ts i u within ∙ ap (λ v. v ∷ drop (i + 1) ts) (sym here) in
    at_drop_more rises ts (i - 1) t (omega arith) ∙ ap (λ v. rises (v ∷ drop (i - 1 + 1) ts)) (sym before) ∙ rw (next, rest) refl

texts-done : (ts : List (List ℕ)) (i : ℕ) → 1 ≤ i → length ts ≤ i → rises (drop (i - 1) ts) ≡ true
unfolding rises
texts-done ts i one past = elim (cases_Bool (nat_lt (i - 1) (length ts))) [
  | inl within ↦
      let next : i - 1 + 1 ≡ i = omega arith in
      at_drop_more rises ts (i - 1) [] (grind (arith, nat_tests)) ∙ rw (next, drop_all i ts past) refl
  | inr beyond ↦ rw (drop_all (i - 1) ts (grind (arith, nat_tests))) refl
]

module _ {X : Type 0} (named : X → List ℕ) where
  named_at : (xs : List X) (i : ℕ) (x : X) → x ≡ get_or xs i x → named x ≡ get_or (map named xs) i (named x)
  named_at xs i x is = ap named is ∙ sym (get_or-map named xs i x)

  step : (xs : List X) (i : ℕ) (x y : X) → 1 ≤ i → i < length xs → x ≡ get_or xs (i - 1) x → y ≡ get_or xs i y
      → rises (drop (i - 1) (map named xs)) ≡ (is_lt (slice_cmp nat_cmp (named x) (named y)) && rises (drop i (map named xs)))
  step xs i x y one within before here = texts-step (map named xs) i (named x) (named y) one (omega (arith, length-map xs named)) (named_at xs (i - 1) x before) (named_at xs i y here)

  -- an item comes before the next one
  pub goes_on : (xs : List X) (i : ℕ) (x y : X) → 1 ≤ i → i < length xs → x ≡ get_or xs (i - 1) x → y ≡ get_or xs i y
      → is_lt (slice_cmp nat_cmp (named x) (named y)) ≡ true → rises (drop (i - 1) (map named xs)) ≡ rises (map named xs)
      → rises (drop (i + 1 - 1) (map named xs)) ≡ rises (map named xs)
  goes_on xs i x y one within before here less total =
      let same : i + 1 - 1 ≡ i = omega arith in
      let first : rises (drop (i - 1) (map named xs)) ≡ rises (drop i (map named xs)) = step xs i x y one within before here ∙ rw less refl in
      rw same (sym first ∙ total)

  -- an item doesn't come before the next one
  pub stops : (xs : List X) (i : ℕ) (x y : X) → 1 ≤ i → i < length xs → x ≡ get_or xs (i - 1) x → y ≡ get_or xs i y
      → is_lt (slice_cmp nat_cmp (named x) (named y)) ≡ false → rises (drop (i - 1) (map named xs)) ≡ rises (map named xs)
      → false ≡ rises (map named xs)
  stops xs i x y one within before here less total =
      let first : rises (drop (i - 1) (map named xs)) ≡ false = step xs i x y one within before here ∙ rw less refl in
      sym first ∙ total

  -- past the last item
  pub is_done : (xs : List X) (i : ℕ) → 1 ≤ i → length xs ≤ i → rises (drop (i - 1) (map named xs)) ≡ rises (map named xs) → true ≡ rises (map named xs)
  is_done xs i one past total = sym (texts-done (map named xs) i one (omega (arith, length-map xs named))) ∙ total
