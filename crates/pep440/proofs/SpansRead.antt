-- Numbers, words and local parts as they are read from a text.
use Rattle.std.proofs.Common.{◌≡◌, ℕ, zero, suc, ◌+◌, ◌-◌, ◌*◌, ◌^◌, ◌<◌, ◌≤◌, Bool, true, false, eqb, ltb, ◌&&◌, List, [], ◌∷◌, ◌++◌, length, get_or, take, drop, None, Err, refl, sym, ap, subst, ◌∙◌, arith, inl, inr, append_assoc}
use Rattle.std.specs.Char.{is_ascii_alphanumeric}
use Rattle.std.specs.List.{list_all, list_any}
use Rattle.std.specs.Cmp.{first_so, second_so}
use Rattle.std.proofs.lemmas.Bool.{cases_Bool, le-ltb, lt-ltb}
use Rattle.std.proofs.lemmas.Bool.Decides.{nat_tests}
use Rattle.std.proofs.lemmas.List.{append-nil, at_drop_more, drop_all}
use Rattle.pep440.specs.declared.fault.Fault.TheVariants.{NumberTooLarge}
use Rattle.pep440.specs.Grammar.{is_separator, value_from}
use Rattle.pep440.specs.Tied.Reading.{is_local_from, locals_from, locals_of, numbers_from, part_of, strip_word}
use Rattle.pep440.specs.Tied.Views.{capped, is_local}

-- ---- numbers

value_from-large : (n : ℕ) (digits : List ℕ) → 2 ^ 64 ≤ n → 2 ^ 64 ≤ value_from n digits
value_from-large n [] h = h
value_from-large n (b ∷ rest) h = value_from-large (n * 10 + (b - 48)) rest (omega arith)

-- a digit that takes a number over the limit
pub number-large : (value i whole : ℕ) (digits : List ℕ) → i < length digits → 2 ^ 64 ≤ value * 10 + (get_or digits i 0 - 48)
    → value_from value (drop i digits) ≡ whole → capped whole ≡ Err NumberTooLarge
number-large value i whole digits within large e =
    let step : value_from value (drop i digits) ≡ value_from (value * 10 + (get_or digits i 0 - 48)) (drop (i + 1) digits) = at_drop_more (value_from value) digits i 0 within in
    let over : 2 ^ 64 ≤ whole = subst (λ (k : ℕ). 2 ^ 64 ≤ k) (sym step ∙ e) (value_from-large _ (drop (i + 1) digits) large) in
    rw (le-ltb whole (2 ^ 64) over) refl

-- ---- words

-- a text that ends within the word
pub strip-short : (word text : List ℕ) (i : ℕ) → i < length word → length text ≤ i → strip_word (drop i word) (drop i text) ≡ None
strip-short word text i within past = at_drop_more (λ w. strip_word w (drop i text)) word i 0 within ∙ rw (drop_all i text past) refl

-- ---- local parts

locals_from-some : (front text : List ℕ) → 0 < length (locals_from front text)
locals_from-some front [] = omega arith
locals_from-some front (b ∷ rest) = elim (cases_Bool (is_separator b)) [
  | inl cut ↦ rw cut (omega arith)
  | inr other ↦ rw other (locals_from-some (front ++ b ∷ []) rest)
]

-- no text, no parts
pub no_locals : (text : List ℕ) → eqb (length (locals_of text)) 0 ≡ eqb (length text) 0
no_locals [] = refl
no_locals (b ∷ rest) = let some = locals_from-some [] (b ∷ rest) in grind (arith, nat_tests)

-- more than one number stands where a `.` does
more_numbers : (n : ℕ) (text : List ℕ) → 0 < length (numbers_from n text)
more_numbers n [] = omega arith
more_numbers n (b ∷ rest) = elim (cases_Bool (eqb b 46)) [ inl dot ↦ rw dot (omega arith) | inr other ↦ rw other (more_numbers (n * 10 + (b - 48)) rest) ]

pub dots_numbers : (n : ℕ) (text : List ℕ) → list_any (λ b. eqb b 46) text ≡ ltb 1 (length (numbers_from n text))
dots_numbers n [] = refl
dots_numbers n (b ∷ rest) = elim (cases_Bool (eqb b 46)) [
  | inl dot ↦ let some = more_numbers 0 rest in rw dot (sym (lt-ltb 1 (suc (length (numbers_from 0 rest))) (omega arith)))
  | inr other ↦ rw other (dots_numbers (n * 10 + (b - 48)) rest)
]

locals_from-run : (front text : List ℕ) → ((k : ℕ) → k < length text → is_separator (get_or text k 0) ≡ false) → locals_from front text ≡ part_of (front ++ text) ∷ []
locals_from-run front [] others = ap (λ (t : List ℕ). part_of t ∷ []) (sym (append-nil front))
locals_from-run front (b ∷ rest) others =
    let first : is_separator b ≡ false = others 0 (omega arith) in
    rw first (locals_from-run (front ++ b ∷ []) rest (λ k h. others (suc k) (omega arith)) ∙ ap (λ (t : List ℕ). part_of t ∷ []) (append_assoc front (b ∷ []) rest))

pub locals-one : (text : List ℕ) → ((k : ℕ) → k < length text → is_separator (get_or text k 0) ≡ false) → locals_from [] text ≡ part_of text ∷ []
locals-one text others = locals_from-run [] text others

locals_from-at : (front text : List ℕ) (i : ℕ) → i < length text → ((k : ℕ) → k < i → is_separator (get_or text k 0) ≡ false) → is_separator (get_or text i 0) ≡ true
    → locals_from front text ≡ part_of (front ++ take i text) ∷ locals_from [] (drop (i + 1) text)
locals_from-at front [] i within others cut = absurd (omega arith)
locals_from-at front (b ∷ rest) zero within others cut = rw (cut, append-nil front) refl
locals_from-at front (b ∷ rest) (suc i) within others cut =
    let first : is_separator b ≡ false = others 0 (omega arith) in
    let next : suc i + 1 ≡ suc (i + 1) = omega arith in
    rw (next, first) (locals_from-at (front ++ b ∷ []) rest i (omega arith) (λ k h. others (suc k) (omega arith)) cut
    ∙ ap (λ (t : List ℕ). part_of t ∷ locals_from [] (drop (i + 1) rest)) (append_assoc front (b ∷ []) (take i rest)))

pub locals-at : (text : List ℕ) (i : ℕ) → i < length text → ((k : ℕ) → k < i → is_separator (get_or text k 0) ≡ false) → is_separator (get_or text i 0) ≡ true
    → locals_from [] text ≡ part_of (take i text) ∷ locals_from [] (drop (i + 1) text)
locals-at text i within others cut = locals_from-at [] text i within others cut

pub local-one : (some : Bool) (text : List ℕ) → ((k : ℕ) → k < length text → is_separator (get_or text k 0) ≡ false) → is_local_from some text ≡ true → list_all is_ascii_alphanumeric text ≡ true
local-one some [] others h = refl
local-one some (b ∷ rest) others h =
    let first : is_separator b ≡ false = others 0 (omega arith) in
    let g : (is_ascii_alphanumeric b && is_local_from true rest) ≡ true = rw first at h in
    rw (first_so (is_ascii_alphanumeric b) (is_local_from true rest) g)
    (local-one true rest (λ k h. others (suc k) (omega arith)) (second_so (is_ascii_alphanumeric b) (is_local_from true rest) g))

pub local-at : (some : Bool) (text : List ℕ) (i : ℕ) → i < length text → ((k : ℕ) → k < i → is_separator (get_or text k 0) ≡ false) → is_separator (get_or text i 0) ≡ true
    → is_local_from some text ≡ true → (list_all is_ascii_alphanumeric (take i text) ≡ true) × (is_local_from false (drop (i + 1) text) ≡ true)
local-at some [] i within others cut h = absurd (omega arith)
local-at some (b ∷ rest) zero within others cut h =
    let g : (some && is_local_from false rest) ≡ true = rw cut at h in
    (refl, second_so some (is_local_from false rest) g)
local-at some (b ∷ rest) (suc i) within others cut h =
    let first : is_separator b ≡ false = others 0 (omega arith) in
    let next : suc i + 1 ≡ suc (i + 1) = omega arith in
    let g : (is_ascii_alphanumeric b && is_local_from true rest) ≡ true = rw first at h in
    let more = local-at true rest i (omega arith) (λ k h. others (suc k) (omega arith)) cut (second_so (is_ascii_alphanumeric b) (is_local_from true rest) g) in
    (rw (first_so (is_ascii_alphanumeric b) (is_local_from true rest) g) more.0, rw next more.1)

-- a text that is local parts isn't empty
pub local-nonempty : (text : List ℕ) → is_local text ≡ true → 0 < length text → is_local_from false text ≡ true
local-nonempty [] h some = absurd (omega arith)
local-nonempty (b ∷ rest) h some = h

pub locals_of-some : (text : List ℕ) → 0 < length text → locals_of text ≡ locals_from [] text
locals_of-some [] some = absurd (omega arith)
locals_of-some (b ∷ rest) some = refl
