-- What the parts of a version begin with.
use Rattle.std.proofs.Common.{◌≡◌, ℕ, Bool, true, false, eqb, not, ◌&&◌, ◌||◌, List, [], ◌∷◌, refl, arith}
use Rattle.std.specs.Char.{is_ascii_digit, to_ascii_lowercase}
use Rattle.std.specs.List.{list_all}
use Rattle.std.specs.Cmp.{first_so, second_so}
use Rattle.std.proofs.lemmas.Bool.Decides.{nat_tests}
use Rattle.pep440.specs.Grammar.{is_separator}

abbrev pub are_digits : List ℕ → Bool
are_digits ds = list_all is_ascii_digit ds

-- the first byte, where there is one, passes a test
abbrev pub head_is : (ℕ → Bool) → List ℕ → Bool
head_is test [] = true
head_is test (b ∷ rest) = test b

-- no letter `l`, `e` or `v`, which would go on with a shorter word
abbrev pub ends_word : ℕ → Bool
ends_word b = not (eqb (to_ascii_lowercase b) 108) && (not (eqb (to_ascii_lowercase b) 101) && not (eqb (to_ascii_lowercase b) 118))

-- a byte with which a part behind the release may begin
abbrev pub opens : ℕ → Bool
opens b = not (is_ascii_digit b) && (not (eqb b 33) && ends_word b)

-- a byte that a number or a separator behind a word may be, or that may open a part
pub digit-ends_word : (b : ℕ) → is_ascii_digit b ≡ true → ends_word b ≡ true
digit-ends_word b h = grind (arith, nat_tests)

pub digit-no_lead : (b : ℕ) → is_ascii_digit b ≡ true → eqb (to_ascii_lowercase b) 118 ≡ false
digit-no_lead b h = grind (arith, nat_tests)

pub digit-no_separator : (b : ℕ) → is_ascii_digit b ≡ true → is_separator b ≡ false
digit-no_separator b h = grind (arith, nat_tests)

pub digit-no_dot : (b : ℕ) → is_ascii_digit b ≡ true → eqb b 46 ≡ false
digit-no_dot b h = grind (arith, nat_tests)

pub separator-opens : (b : ℕ) → is_separator b ≡ true → opens b ≡ true
separator-opens b h = grind (arith, nat_tests)

pub separator-no_digit : (b : ℕ) → is_separator b ≡ true → is_ascii_digit b ≡ false
separator-no_digit b h = grind (arith, nat_tests)

pub separator-no_plus : (b : ℕ) → is_separator b ≡ true → eqb b 43 ≡ false
separator-no_plus b h = grind (arith, nat_tests)

-- a letter that begins a word of a part: a, b, c, d, p or r
abbrev pub is_word_start : ℕ → Bool
is_word_start c = eqb c 97 || (eqb c 98 || (eqb c 99 || (eqb c 100 || (eqb c 112 || eqb c 114))))

pub word-opens : (b : ℕ) → is_word_start (to_ascii_lowercase b) ≡ true → opens b ≡ true
word-opens b h = grind (arith, nat_tests)

pub word-no_separator : (b : ℕ) → is_word_start (to_ascii_lowercase b) ≡ true → is_separator b ≡ false
word-no_separator b h = grind (arith, nat_tests)

pub word-no_digit : (b : ℕ) → is_word_start (to_ascii_lowercase b) ≡ true → is_ascii_digit b ≡ false
word-no_digit b h = grind (arith, nat_tests)

pub word-no_plus : (b : ℕ) → is_word_start (to_ascii_lowercase b) ≡ true → eqb b 43 ≡ false
word-no_plus b h = grind (arith, nat_tests)

pub opens-ends_word : (b : ℕ) → opens b ≡ true → ends_word b ≡ true
opens-ends_word b h = second_so (not (eqb b 33)) (ends_word b) (second_so (not (is_ascii_digit b)) (not (eqb b 33) && ends_word b) h)

not-true : (b : Bool) → not b ≡ true → b ≡ false
not-true true h = absurd cc
not-true false h = refl

pub opens-no_digit : (b : ℕ) → opens b ≡ true → is_ascii_digit b ≡ false
opens-no_digit b h = not-true (is_ascii_digit b) (first_so (not (is_ascii_digit b)) (not (eqb b 33) && ends_word b) h)

pub opens-no_bang : (b : ℕ) → opens b ≡ true → eqb b 33 ≡ false
opens-no_bang b h = not-true (eqb b 33) (first_so (not (eqb b 33)) (ends_word b) (second_so (not (is_ascii_digit b)) (not (eqb b 33) && ends_word b) h))

pub ends_word-l : (b : ℕ) → ends_word b ≡ true → eqb (to_ascii_lowercase b) 108 ≡ false
ends_word-l b h = not-true _ (first_so (not (eqb (to_ascii_lowercase b) 108)) _ h)

pub ends_word-e : (b : ℕ) → ends_word b ≡ true → eqb (to_ascii_lowercase b) 101 ≡ false
ends_word-e b h = not-true _ (first_so (not (eqb (to_ascii_lowercase b) 101)) _ (second_so (not (eqb (to_ascii_lowercase b) 108)) _ h))

pub ends_word-v : (b : ℕ) → ends_word b ≡ true → eqb (to_ascii_lowercase b) 118 ≡ false
ends_word-v b h = not-true _ (second_so (not (eqb (to_ascii_lowercase b) 101)) _ (second_so (not (eqb (to_ascii_lowercase b) 108)) _ h))
