-- What stands behind a word of a version: a number, or what ends it.
use Rattle.std.proofs.Common.{◌≡◌, ℕ, Bool, true, false, cond, eqb, ◌&&◌, ◌⊎◌, List, [], ◌∷◌, ◌++◌, refl, sym, ap, subst, ◌∙◌, arith, inl, inr, append_assoc}
use Rattle.std.specs.Char.{is_ascii_digit}
use Rattle.std.specs.Cmp.{first_so, second_so}
use Rattle.std.proofs.lemmas.Bool.{cases_Bool}
use Rattle.std.proofs.lemmas.Bool.Decides.{nat_tests}
use Rattle.pep440.specs.Grammar.{IsLabelled, IsSeparator, is_separator}
use Rattle.pep440.specs.Tied.Reading.{after_digits, after_separator, digits_of, is_implicit, number_behind, starts_digit}
use Rattle.pep440.proofs.HeadFacts.{are_digits, digit-ends_word, digit-no_separator, ends_word, head_is, opens, opens-ends_word, opens-no_digit, separator-opens, word-no_digit, word-no_separator, word-opens}
use Rattle.pep440.proofs.WordFacts.{starts_word}

-- behind a separator at the front stands a letter of a word
abbrev pub apart : List ℕ → Bool
apart [] = true
apart (b ∷ rest) = cond (is_separator b) (starts_word rest) true

-- `.` and a digit
abbrev pub starts_dot_digit : List ℕ → Bool
starts_dot_digit [] = false
starts_dot_digit (b ∷ rest) = eqb b 46 && starts_digit rest

word-is_no_digit : (text : List ℕ) → starts_word text ≡ true → starts_digit text ≡ false
word-is_no_digit [] h = absurd cc
word-is_no_digit (b ∷ rest) h = word-no_digit b h

pub opens-starts : (text : List ℕ) → head_is opens text ≡ true → starts_digit text ≡ false
opens-starts [] h = refl
opens-starts (b ∷ rest) h = opens-no_digit b h

dot-separator : (b : ℕ) → eqb b 46 ≡ true → is_separator b ≡ true
dot-separator b h = rw h refl

minus-separator : (b : ℕ) → eqb b 45 ≡ true → is_separator b ≡ true
minus-separator b h = grind (arith, nat_tests)

pub apart-no_dot : (text : List ℕ) → apart text ≡ true → starts_dot_digit text ≡ false
apart-no_dot [] h = refl
apart-no_dot (b ∷ rest) h = elim (cases_Bool (eqb b 46)) [
  | inl dot ↦ let g : starts_word rest ≡ true = rw (dot-separator b dot) at h in rw (dot, word-is_no_digit rest g) refl
  | inr other ↦ rw other refl
]

pub apart-no_implicit : (text : List ℕ) → apart text ≡ true → is_implicit text ≡ false
apart-no_implicit [] h = refl
apart-no_implicit (b ∷ rest) h = elim (cases_Bool (eqb b 45)) [
  | inl minus ↦ let g : starts_word rest ≡ true = rw (minus-separator b minus) at h in rw (minus, word-is_no_digit rest g) refl
  | inr other ↦ rw other refl
]

pub word-after_separator : (text : List ℕ) → starts_word text ≡ true → after_separator text ≡ text
word-after_separator [] h = refl
word-after_separator (b ∷ rest) h = rw (word-no_separator b h) refl

word-opens_text : (text : List ℕ) → starts_word text ≡ true → (head_is opens text ≡ true) × (apart text ≡ true)
word-opens_text [] h = (refl, refl)
word-opens_text (b ∷ rest) h = (word-opens b h, rw (word-no_separator b h) refl)

-- a labelled part at the front of a text
pub label-split : {IsWord : List ℕ → Type 0} (text : List ℕ) (n : ℕ) (rest : List ℕ) (l : IsLabelled IsWord text n) → text ++ rest ≡ l.first ++ (l.word ++ (l.second ++ (l.digits ++ rest)))
label-split text n rest l =
    ap (λ (t : List ℕ). t ++ rest) l.whole ∙ append_assoc l.first (l.word ++ (l.second ++ l.digits)) rest
    ∙ ap (λ (t : List ℕ). l.first ++ t) (append_assoc l.word (l.second ++ l.digits) rest ∙ ap (λ (t : List ℕ). l.word ++ t) (append_assoc l.second l.digits rest))

front-facts : (first behind : List ℕ) → IsSeparator first → starts_word behind ≡ true → (head_is opens (first ++ behind) ≡ true) × (apart (first ++ behind) ≡ true) × (after_separator (first ++ behind) ≡ behind)
front-facts [] behind s h = let p = word-opens_text behind h in (p.0, p.1, word-after_separator behind h)
front-facts (b ∷ []) behind s h = (separator-opens b s, rw s h, rw s refl)
front-facts (b ∷ c ∷ more) behind s h = absurd s

-- ---- the number behind a word

digits-run : (ds rest : List ℕ) → are_digits ds ≡ true → starts_digit rest ≡ false → (digits_of (ds ++ rest) ≡ ds) × (after_digits (ds ++ rest) ≡ rest)
digits-run [] [] h g = (refl, refl)
digits-run [] (b ∷ rest) h g = (rw g refl, rw g refl)
digits-run (d ∷ ds) rest h g =
    let one = first_so (is_ascii_digit d) (are_digits ds) h in
    let r = digits-run ds rest (second_so (is_ascii_digit d) (are_digits ds) h) g in
    (rw (one, r.0) refl, rw one r.1)

pub digits-read : (ds rest : List ℕ) → are_digits ds ≡ true → starts_digit rest ≡ false → (digits_of (ds ++ rest) ≡ ds) × (after_digits (ds ++ rest) ≡ rest)
digits-read = digits-run

-- a separator was taken with the number, which the next part's word might have had before it
pub record Skips (rest behind : List ℕ) : Type 0 where
  pub separator : ℕ
  pub is : is_separator separator ≡ true
  pub whole : rest ≡ separator ∷ behind
  pub word : starts_word behind ≡ true

-- the digits behind a word are read; what is left is the rest, or the rest without its separator
pub record Behind (second digits rest : List ℕ) : Type 0 where
  pub number : (number_behind (second ++ (digits ++ rest))).0 ≡ digits
  pub left : ((number_behind (second ++ (digits ++ rest))).1 ≡ rest) ⊎ Skips rest (number_behind (second ++ (digits ++ rest))).1

bare : (rest : List ℕ) → starts_digit rest ≡ false → apart rest ≡ true → Behind [] [] rest
bare [] h g = record { number = refl; left = inl refl }
bare (b ∷ rest) h g = elim (cases_Bool (is_separator b)) [
  | inl cut ↦
      let w : starts_word rest ≡ true = rw cut at g in
      let r = digits-run [] rest refl (word-is_no_digit rest w) in
      record { number = rw cut r.0; left = inr (record { separator = b; is = cut; whole = rw cut (ap (λ (t : List ℕ). b ∷ t) (sym r.1)); word = rw cut (subst (λ (t : List ℕ). starts_word t ≡ true) (sym r.1) w) }) }
  | inr other ↦
      let r = digits-run [] (b ∷ rest) refl h in
      record { number = rw other r.0; left = inl (rw other r.1) }
]

pub behind : (second digits rest : List ℕ) → IsSeparator second → are_digits digits ≡ true → starts_digit rest ≡ false → (second ++ digits ≡ [] → apart rest ≡ true) → Behind second digits rest
behind [] [] rest s d h g = bare rest h (g refl)
behind [] (d ∷ ds) rest s all h g =
    let no = digit-no_separator d (first_so (is_ascii_digit d) (are_digits ds) all) in
    let r = digits-run (d ∷ ds) rest all h in
    record { number = rw no r.0; left = inl (rw no r.1) }
behind (b ∷ []) ds rest s all h g =
    let r = digits-run ds rest all h in
    record { number = rw s r.0; left = inl (rw s r.1) }
behind (b ∷ c ∷ more) ds rest s all h g = absurd s

-- what stands behind a word ends it
pub behind-ends_word : (second digits rest : List ℕ) → IsSeparator second → are_digits digits ≡ true → head_is opens rest ≡ true → head_is ends_word (second ++ (digits ++ rest)) ≡ true
behind-ends_word [] [] [] s all h = refl
behind-ends_word [] [] (b ∷ rest) s all h = opens-ends_word b h
behind-ends_word [] (d ∷ ds) rest s all h = digit-ends_word d (first_so (is_ascii_digit d) (are_digits ds) all)
behind-ends_word (b ∷ []) ds rest s all h = opens-ends_word b (separator-opens b s)
behind-ends_word (b ∷ c ∷ more) ds rest s all h = absurd s

-- ---- a labelled part at the front

pub record LabelFront (text rest : List ℕ) (word tail : List ℕ) : Type 0 where
  pub opens : head_is opens (text ++ rest) ≡ true
  pub apart : apart (text ++ rest) ≡ true
  pub word_at : after_separator (text ++ rest) ≡ word ++ tail

pub label-front : {IsWord : List ℕ → Type 0} (text : List ℕ) (n : ℕ) (rest : List ℕ) (l : IsLabelled IsWord text n) → ((word more : List ℕ) → IsWord word → starts_word (word ++ more) ≡ true)
    → LabelFront text rest l.word (l.second ++ (l.digits ++ rest))
label-front text n rest l starts =
    let e = label-split text n rest l in
    let f = front-facts l.first (l.word ++ (l.second ++ (l.digits ++ rest))) l.separates (starts l.word (l.second ++ (l.digits ++ rest)) l.says) in
    record { opens = rw e f.0; apart = rw e f.1; word_at = ap after_separator e ∙ f.2 }
