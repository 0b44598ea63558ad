-- The first line of a text.
use Rattle.std.proofs.Common.{◌≡◌, ◌≢◌, ℕ, zero, suc, ◌<◌, ◌⊎◌, inl, inr, List, [], ◌∷◌, length, get_or, take, drop, false, eqb, refl, arith}
use Rattle.std.proofs.lemmas.Bool.{cases_Bool}
use Rattle.std.proofs.lemmas.Bool.Decides.{nat_tests}
use Rattle.pep508.specs.Lines.{lines_of}

-- what is no LF tests so
other_byte : (b : ℕ) → b ≢ 10 → eqb b 10 ≡ false
other_byte b other = grind (arith, nat_tests)

-- the first line ends at the first LF, or with the text
pub lines_of-first : (text : List ℕ) (n : ℕ) → n < length text → ((k : ℕ) → k < n → get_or text k 0 ≢ 10)
    → (get_or text n 0 ≡ 10) ⊎ (suc n ≡ length text) → lines_of text ≡ take (suc n) text ∷ lines_of (drop (suc n) text)
unfolding lines_of
lines_of-first [] n within none ends = absurd (omega arith)
lines_of-first (b ∷ rest) zero within none (inl lf) = rw lf refl
lines_of-first (b ∷ []) zero within none (inr last) = elim (cases_Bool (eqb b 10)) [
  | inl lf ↦ rw lf refl
  | inr other ↦ rw other refl
]
lines_of-first (b ∷ c ∷ rest) zero within none (inr last) = absurd (omega arith)
lines_of-first (b ∷ rest) (suc n) within none ends =
    let other : eqb b 10 ≡ false = other_byte b (none 0 (omega arith)) in
    let shorter : (get_or rest n 0 ≡ 10) ⊎ (suc n ≡ length rest) = elim ends [ inl lf ↦ inl lf | inr last ↦ inr (omega arith) ] in
    let next = lines_of-first rest n (omega arith) (λ k below. none (suc k) (omega arith)) shorter in
    rw (other, next) refl
