-- A scan meets too many open parentheses exactly where some beginning of the text has them.
use Rattle.std.proofs.Common.{◌≡◌, ℕ, suc, ◌+◌, ◌≤◌, Bool, true, false, eqb, ltb, List, [], ◌∷◌, length, filter, map, Option, Some, None, refl, sym, ap, subst, ◌∙◌, arith, inl, inr}
use Rattle.std.proofs.lemmas.Bool.{cases_Bool, eqb-true, le-ltb, ltb-false}
use Rattle.std.specs.List.{list_any}
use Rattle.markers.specs.MarkerDepth.{beginnings, is_too_deep, leaves_too_many, outside, quote_after}
use Rattle.markers.specs.Tied.MarkerTokens.{is_deep_from}

-- parentheses of a text, where a quote may be open before it
abbrev closes : Option ℕ → List ℕ → ℕ
closes quote text = length (filter (λ b. eqb b 41) (outside quote text))

abbrev opens : Option ℕ → List ℕ → ℕ
opens quote text = length (filter (λ b. eqb b 40) (outside quote text))

-- too many are open at the end of a text, where so many were begun and ended before it
abbrev too_many : Option ℕ → ℕ → ℕ → List ℕ → Bool
too_many quote begun ended text = ltb ((ended + closes quote text) + 64) (begun + opens quote text)

any-map : (f : List ℕ → Bool) (g : List ℕ → List ℕ) (xs : List (List ℕ)) → list_any f (map g xs) ≡ list_any (λ x. f (g x)) xs
any-map f g [] = refl
any-map f g (x ∷ xs) = rw (any-map f g xs) refl

any-same : (f g : List ℕ → Bool) (xs : List (List ℕ)) → ((x : List ℕ) → f x ≡ g x) → list_any f xs ≡ list_any g xs
any-same f g xs same = ap (λ (test : List ℕ → Bool). list_any test xs) (λ i x. same x i)

nothing-first : (f : List ℕ → Bool) (text : List ℕ) → f [] ≡ true → list_any f (beginnings text) ≡ true
nothing-first f [] h = rw h refl
nothing-first f (b ∷ rest) h = rw h refl

few-first : (quote : Option ℕ) (begun ended : ℕ) → begun ≤ ended + 64 → too_many quote begun ended [] ≡ false
few-first quote begun ended h = le-ltb ((ended + length {A = ℕ} []) + 64) (begun + length {A = ℕ} []) (omega arith)

-- one byte more at the front
first-off : (quote next : Option ℕ) (begun ended after_begun after_ended b : ℕ) (rest : List ℕ) → begun ≤ ended + 64
    → ((text : List ℕ) → too_many quote begun ended (b ∷ text) ≡ too_many next after_begun after_ended text)
    → list_any (too_many quote begun ended) (beginnings (b ∷ rest)) ≡ list_any (too_many next after_begun after_ended) (beginnings rest)
first-off quote next begun ended after_begun after_ended b rest few same =
    rw (few-first quote begun ended few)
    (any-map (too_many quote begun ended) (λ text. b ∷ text) (beginnings rest)
    ∙ any-same (λ text. too_many quote begun ended (b ∷ text)) (too_many next after_begun after_ended) (beginnings rest) same)

open-off : (begun ended : ℕ) (text : List ℕ) → too_many None begun ended (40 ∷ text) ≡ too_many None (begun + 1) ended text
open-off begun ended text = let e : begun + suc (opens None text) ≡ (begun + 1) + opens None text = omega arith in ap (λ n. ltb ((ended + closes None text) + 64) n) e

close-off : (begun ended : ℕ) (text : List ℕ) → too_many None begun ended (41 ∷ text) ≡ too_many None begun (ended + 1) text
close-off begun ended text = let e : (ended + suc (closes None text)) + 64 ≡ ((ended + 1) + closes None text) + 64 = omega arith in ap (λ n. ltb n (begun + opens None text)) e

opens-now : (begun ended : ℕ) → ltb (ended + 64) (begun + 1) ≡ true → too_many None (begun + 1) ended [] ≡ true
opens-now begun ended deep =
    let e : (ended + length {A = ℕ} []) + 64 ≡ ended + 64 = omega arith in
    let f : (begun + 1) + length {A = ℕ} [] ≡ begun + 1 = omega arith in
    rw (e, f) deep

-- one more is open: these are too many, or the scan goes on
one-more : (begun ended : ℕ) (rest : List ℕ) → (begun + 1 ≤ ended + 64 → list_any (too_many None (begun + 1) ended) (beginnings rest) ≡ is_deep_from None (begun + 1) ended rest)
    → list_any (too_many None (begun + 1) ended) (beginnings rest) ≡ is_deep_from None begun ended (40 ∷ rest)
one-more begun ended rest onward = elim (cases_Bool (ltb (ended + 64) (begun + 1))) [
  | inl deep ↦ nothing-first (too_many None (begun + 1) ended) rest (opens-now begun ended deep) ∙ rw deep refl
  | inr few ↦ onward (ltb-false (ended + 64) (begun + 1) few) ∙ rw few refl
]

deep-scan : (text : List ℕ) (quote : Option ℕ) (begun ended : ℕ) → begun ≤ ended + 64 → list_any (too_many quote begun ended) (beginnings text) ≡ is_deep_from quote begun ended text
deep-scan [] quote begun ended few = rw (few-first quote begun ended few) refl
deep-scan (b ∷ rest) (Some q) begun ended few =
    first-off (Some q) (quote_after (Some q) b) begun ended begun ended b rest few (λ text. refl) ∙ deep-scan rest (quote_after (Some q) b) begun ended few
deep-scan (b ∷ rest) None begun ended few = elim (cases_Bool (eqb b 40)) [
  | inl opens ↦
      subst (λ (c : ℕ). list_any (too_many None begun ended) (beginnings (c ∷ rest)) ≡ is_deep_from None begun ended (c ∷ rest)) (sym (eqb-true b 40 opens))
      (first-off None None begun ended (begun + 1) ended 40 rest few (open-off begun ended)
      ∙ one-more begun ended rest (deep-scan rest None (begun + 1) ended))
  | inr other ↦ elim (cases_Bool (eqb b 41)) [
    | inl closes ↦
        subst (λ (c : ℕ). list_any (too_many None begun ended) (beginnings (c ∷ rest)) ≡ is_deep_from None begun ended (c ∷ rest)) (sym (eqb-true b 41 closes))
        (first-off None None begun ended begun (ended + 1) 41 rest few (close-off begun ended) ∙ deep-scan rest None begun (ended + 1) (omega arith))
    | inr plain ↦
        first-off None (quote_after None b) begun ended begun ended b rest few (λ text. rw (other, plain) refl)
        ∙ deep-scan rest (quote_after None b) begun ended few ∙ rw (other, plain) refl
  ]
]

pub deep-is_scanned : (text : List ℕ) → is_too_deep text ≡ is_deep_from None 0 0 text
unfolding is_too_deep
deep-is_scanned text = any-same leaves_too_many (too_many None 0 0) (beginnings text) from_nothing ∙ deep-scan text None 0 0 (omega arith)
  where
    from_nothing : (text : List ℕ) → leaves_too_many text ≡ too_many None 0 0 text
    from_nothing text =
        let e : closes None text + 64 ≡ (0 + closes None text) + 64 = omega arith in
        let f : opens None text ≡ 0 + opens None text = omega arith in
        λ i. ltb (e i) (f i)
