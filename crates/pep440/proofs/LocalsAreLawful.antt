-- Local parts that are read are lawful.
use Rattle.std.proofs.Common.{◌≡◌, ℕ, Bool, true, false, ◌&&◌, List, [], ◌∷◌, ◌++◌, map, refl, arith, inl, inr}
use Rattle.std.specs.Char.{is_ascii_alphanumeric, is_ascii_digit, to_ascii_lowercase}
use Rattle.std.specs.List.{list_all}
use Rattle.std.specs.Cmp.{first_so, second_so}
use Rattle.std.proofs.lemmas.Bool.{cases_Bool}
use Rattle.std.proofs.lemmas.Bool.Decides.{nat_tests}
use Rattle.pep440.specs.Grammar.{is_separator}
use Rattle.pep440.specs.Tied.Reading.{is_local_from, locals_from, locals_of, part_of}
use Rattle.pep440.specs.Version.{is_part, is_word_byte}
use Rattle.pep440.specs.Tied.Views.{is_local}

-- ---- lawful local parts

lower-digit : (b : ℕ) → is_ascii_digit (to_ascii_lowercase b) ≡ is_ascii_digit b
lower-digit b = grind (arith, nat_tests)

lower-word_byte : (b : ℕ) → is_ascii_alphanumeric b ≡ true → is_word_byte (to_ascii_lowercase b) ≡ true
lower-word_byte b h = grind (arith, nat_tests)

lower-digits : (text : List ℕ) → list_all is_ascii_digit (map to_ascii_lowercase text) ≡ list_all is_ascii_digit text
lower-digits [] = refl
lower-digits (b ∷ rest) = rw (lower-digit b, lower-digits rest) refl

lower-word : (text : List ℕ) → list_all is_ascii_alphanumeric text ≡ true → list_all is_word_byte (map to_ascii_lowercase text) ≡ true
lower-word [] h = refl
lower-word (b ∷ rest) h =
    rw (lower-word_byte b (first_so (is_ascii_alphanumeric b) (list_all is_ascii_alphanumeric rest) h), lower-word rest (second_so (is_ascii_alphanumeric b) (list_all is_ascii_alphanumeric rest) h)) refl

part-lawful : (text : List ℕ) → list_all is_ascii_alphanumeric text ≡ true → is_part (part_of text) ≡ true
part-lawful text h = elim (cases_Bool (list_all is_ascii_digit text)) [
  | inl digits ↦ rw digits refl
  | inr letters ↦ rw (letters, lower-word text h, lower-digits text, letters) refl
]

alnum-append : (front : List ℕ) (b : ℕ) → list_all is_ascii_alphanumeric front ≡ true → is_ascii_alphanumeric b ≡ true → list_all is_ascii_alphanumeric (front ++ b ∷ []) ≡ true
alnum-append [] b h g = rw g refl
alnum-append (a ∷ front) b h g =
    rw (first_so (is_ascii_alphanumeric a) (list_all is_ascii_alphanumeric front) h, alnum-append front b (second_so (is_ascii_alphanumeric a) (list_all is_ascii_alphanumeric front) h) g) refl

locals_from-lawful : (some : Bool) (front text : List ℕ) → list_all is_ascii_alphanumeric front ≡ true → is_local_from some text ≡ true → list_all is_part (locals_from front text) ≡ true
locals_from-lawful some front [] h g = rw (part-lawful front h) refl
locals_from-lawful some front (b ∷ rest) h g = elim (cases_Bool (is_separator b)) [
  | inl cut ↦
      let more : (some && is_local_from false rest) ≡ true = rw cut at g in
      rw (cut, part-lawful front h) (locals_from-lawful false [] rest refl (second_so some (is_local_from false rest) more))
  | inr other ↦
      let more : (is_ascii_alphanumeric b && is_local_from true rest) ≡ true = rw other at g in
      rw other (locals_from-lawful true (front ++ b ∷ []) rest (alnum-append front b h (first_so (is_ascii_alphanumeric b) (is_local_from true rest) more)) (second_so (is_ascii_alphanumeric b) (is_local_from true rest) more))
]

-- local parts that are read are lawful
pub locals-lawful : (text : List ℕ) → is_local text ≡ true → list_all is_part (locals_of text) ≡ true
locals-lawful [] h = refl
locals-lawful (b ∷ rest) h = locals_from-lawful false [] (b ∷ rest) refl h
