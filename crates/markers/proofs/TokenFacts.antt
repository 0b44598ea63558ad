-- Facts on the tokens of markers.
use Rattle.std.proofs.Common.{◌≡◌, ℕ, zero, suc, ◌<◌, true, eqb, List, [], ◌∷◌, Option, Some, None, refl, inl, inr, arith}
use Rattle.std.proofs.lemmas.Bool.{cases_Bool}
use Rattle.std.proofs.lemmas.Bool.Decides.{nat_tests}
use Rattle.std.specs.Option.{option_map}
use Rattle.std.specs.Str.{IsAscii}
use Rattle.markers.specs.MarkerSpelling.{is_quotable, is_word_byte}
use Rattle.markers.specs.Tied.MarkerTokens.{quoted_text, word_of}

ascii-cons : (b : ℕ) (rest : List ℕ) → b < 128 → IsAscii rest → IsAscii (b ∷ rest)
ascii-cons b rest h g zero = h
ascii-cons b rest h g (suc i) = g i

ascii-nil : IsAscii []
ascii-nil i = omega arith

word_byte-ascii : (b : ℕ) → is_word_byte b ≡ true → b < 128
word_byte-ascii b h = grind (arith, nat_tests)

quotable-ascii : (b : ℕ) → is_quotable b ≡ true → b < 128
quotable-ascii b h = grind (arith, nat_tests)

pub word-ascii : (text : List ℕ) → IsAscii (word_of text)
word-ascii [] = ascii-nil
word-ascii (b ∷ rest) = elim (cases_Bool (is_word_byte b)) [
  | inl good ↦ rw good (ascii-cons b (word_of rest) (word_byte-ascii b good) (word-ascii rest))
  | inr bad ↦ rw bad ascii-nil
]

quoted-cons : (b : ℕ) (o : Option (List ℕ)) (text : List ℕ) → option_map (λ t. b ∷ t) o ≡ Some text → (t : List ℕ) × (o ≡ Some t) × (text ≡ b ∷ t)
quoted-cons b None text h = absurd cc
quoted-cons b (Some t) text h = (t, refl, cc)

pub quoted-ascii : (q : ℕ) (rest text : List ℕ) → quoted_text q rest ≡ Some text → IsAscii text
quoted-ascii q [] text h = absurd cc
quoted-ascii q (b ∷ rest) text h = elim (cases_Bool (eqb b q)) [
  | inl ends ↦ let g = (rw ends at h) in let e : text ≡ [] = cc in rw e ascii-nil
  | inr more ↦ elim (cases_Bool (is_quotable b)) [
    | inl good ↦
        let g = (rw (more, good) at h) in
        let p = quoted-cons b (quoted_text q rest) text g in
        rw (p.2) (ascii-cons b p.0 (quotable-ascii b good) (quoted-ascii q rest p.0 p.1))
    | inr bad ↦ absurd (let g = (rw (more, bad) at h) in cc)
  ]
]
