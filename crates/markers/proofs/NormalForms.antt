-- What is read of a name is its normal form, which is a name in its normal form.
use Rattle.std.proofs.Common.{◌≡◌, ℕ, ◌-◌, ◌&&◌, Bool, true, false, cond, List, [], ◌∷◌, ◌++◌, filter, length, map, refl, sym, ap, ◌∙◌, arith, inl, inr, nat_lt}
use Rattle.std.proofs.lemmas.Bool.{and_parts, cases_Bool}
use Rattle.std.proofs.lemmas.Bool.Decides.{nat_tests}
use Rattle.std.proofs.lemmas.Slice.Eq.{bytes_eq-Decides}
use Rattle.std.proofs.lemmas.Str.Ascii.{lowercase-lowercase}
use Rattle.std.specs.Char.{is_ascii_alphanumeric, to_ascii_lowercase}
use Rattle.std.specs.List.{join_with_byte, list_all, slice_split}
use Rattle.std.specs.Prelude.{slice_index}
use Rattle.markers.specs.Names.{is_name, is_name_byte, is_normal, is_separator, normal_of, words_of}
use Rattle.markers.specs.Tied.Names.{normal_read, starts_separated}

-- bytes of names

letter-other : (b : ℕ) → is_ascii_alphanumeric b ≡ true → is_separator b ≡ false
letter-other b h = grind (arith, nat_tests)

lower-letter : (b : ℕ) → is_ascii_alphanumeric b ≡ true → is_ascii_alphanumeric (to_ascii_lowercase b) ≡ true
lower-letter b h = grind (arith, nat_tests)

lower-other : (b : ℕ) → is_separator b ≡ false → is_separator (to_ascii_lowercase b) ≡ false
lower-other b h = grind (arith, nat_tests)

lower-byte : (b : ℕ) → is_name_byte b ≡ true → is_name_byte (to_ascii_lowercase b) ≡ true
lower-byte b h = grind (arith, nat_tests)

-- one byte of a normal form

of-other : (b : ℕ) (rest : List ℕ) → is_separator b ≡ false → normal_read (b ∷ rest) ≡ to_ascii_lowercase b ∷ normal_read rest
unfolding normal_read
of-other b rest h = rw h refl

of-dropped : (b : ℕ) (rest : List ℕ) → is_separator b ≡ true → starts_separated rest ≡ true → normal_read (b ∷ rest) ≡ normal_read rest
unfolding normal_read
of-dropped b rest h g = rw (h, g) refl

of-kept : (b : ℕ) (rest : List ℕ) → is_separator b ≡ true → starts_separated rest ≡ false → normal_read (b ∷ rest) ≡ 45 ∷ normal_read rest
unfolding normal_read
of-kept b rest h g = rw (h, g) refl

-- what begins with no separator keeps this
starts : (text : List ℕ) → starts_separated text ≡ false → starts_separated (normal_read text) ≡ false
unfolding normal_read
starts [] h = refl
starts (b ∷ rest) h = rw (of-other b rest h) (lower-other b h)

-- a normal form is its own
again : (text : List ℕ) → normal_read (normal_read text) ≡ normal_read text
unfolding normal_read
again [] = refl
again (b ∷ rest) = elim (cases_Bool (is_separator b)) [
  | inl separator ↦ elim (cases_Bool (starts_separated rest)) [
    | inl more ↦ rw (of-dropped b rest separator more) (again rest)
    | inr last ↦ rw (of-kept b rest separator last) (of-kept 45 (normal_read rest) refl (starts rest last) ∙ ap (λ (l : List ℕ). 45 ∷ l) (again rest))
  ]
  | inr other ↦
      rw (of-other b rest other) (
      of-other (to_ascii_lowercase b) (normal_read rest) (lower-other b other) ∙ rw (lowercase-lowercase b, again rest) refl)
]

-- its bytes may stand in a name
bytes-pass : (text : List ℕ) → list_all is_name_byte text ≡ true → list_all is_name_byte (normal_read text) ≡ true
unfolding normal_read
bytes-pass [] h = refl
bytes-pass (b ∷ rest) h =
    let both = and_parts (is_name_byte b) (list_all is_name_byte rest) h in
    elim (cases_Bool (is_separator b)) [
      | inl separator ↦ elim (cases_Bool (starts_separated rest)) [
        | inl more ↦ rw (of-dropped b rest separator more) (bytes-pass rest both.1)
        | inr last ↦ rw (of-kept b rest separator last) (bytes-pass rest both.1)
      ]
      | inr other ↦ rw (of-other b rest other) (rw (lower-byte b both.0) (bytes-pass rest both.1))
    ]

-- whether a text ends in a letter or a digit
abbrev ends : List ℕ → Bool
ends [] = false
ends (b ∷ []) = is_ascii_alphanumeric b
ends (b ∷ c ∷ rest) = ends (c ∷ rest)

ends-last : (b : ℕ) (rest : List ℕ) → is_ascii_alphanumeric (slice_index (b ∷ rest) (length rest)) ≡ ends (b ∷ rest)
ends-last b [] = refl
ends-last b (c ∷ rest) = ends-last c rest

ends-behind : (b : ℕ) (rest : List ℕ) → ends rest ≡ true → ends (b ∷ rest) ≡ true
ends-behind b [] h = absurd cc
ends-behind b (c ∷ rest) h = h

ends-normal : (text : List ℕ) → ends text ≡ true → ends (normal_read text) ≡ true
unfolding normal_read
ends-normal [] h = absurd cc
ends-normal (b ∷ []) h = rw (of-other b [] (letter-other b h)) (lower-letter b h)
ends-normal (b ∷ c ∷ rest) h = elim (cases_Bool (is_separator b)) [
  | inl separator ↦ elim (cases_Bool (starts_separated (c ∷ rest))) [
    | inl more ↦ rw (of-dropped b (c ∷ rest) separator more) (ends-normal (c ∷ rest) h)
    | inr last ↦ rw (of-kept b (c ∷ rest) separator last) (ends-behind 45 (normal_read (c ∷ rest)) (ends-normal (c ∷ rest) h))
  ]
  | inr other ↦ rw (of-other b (c ∷ rest) other) (ends-behind (to_ascii_lowercase b) (normal_read (c ∷ rest)) (ends-normal (c ∷ rest) h))
]

-- what a name is, in parts
record Parts (b : ℕ) (rest : List ℕ) : Type 0 where
  bytes : list_all is_name_byte (b ∷ rest) ≡ true
  first : is_ascii_alphanumeric b ≡ true
  last : ends (b ∷ rest) ≡ true

split : (o p q r : Bool) → (o && p && q && r) ≡ true → (p ≡ true) × (q ≡ true) × (r ≡ true)
split true true true true h = (refl, refl, refl)
split true true true false h = absurd cc
split true true false r h = absurd cc
split true false q r h = absurd cc
split false p q r h = absurd cc

some-length : (b : ℕ) (rest : List ℕ) → nat_lt 0 (length (b ∷ rest)) ≡ true
some-length b rest = grind (arith, nat_tests)

one-less : (b : ℕ) (rest : List ℕ) → length (b ∷ rest) - 1 ≡ length rest
one-less b rest = omega arith

parts : (b : ℕ) (rest : List ℕ) → is_name (b ∷ rest) ≡ true → Parts b rest
parts b rest h =
    let s = split (nat_lt 0 (length (b ∷ rest))) (list_all is_name_byte (b ∷ rest)) (is_ascii_alphanumeric b) (is_ascii_alphanumeric (slice_index (b ∷ rest) (length (b ∷ rest) - 1))) h in
    record { bytes = s.0; first = s.1; last = sym (ends-last b rest) ∙ (rw (one-less b rest) at s.2) }

whole : (b : ℕ) (rest : List ℕ) → Parts b rest → is_name (b ∷ rest) ≡ true
whole b rest p = rw (some-length b rest, p.bytes, p.first, one-less b rest, ends-last b rest, p.last) refl

-- the normal form of a name is a name
stays_name : (text : List ℕ) → is_name text ≡ true → is_name (normal_read text) ≡ true
stays_name [] h = absurd cc
stays_name (b ∷ rest) h =
    let p = parts b rest h in
    let is = of-other b rest (letter-other b p.first) in
    rw is (whole (to_ascii_lowercase b) (normal_read rest) (record {
      bytes = ap (list_all is_name_byte) (sym is) ∙ bytes-pass (b ∷ rest) p.bytes;
      first = lower-letter b p.first;
      last = ap ends (sym is) ∙ ends-normal (b ∷ rest) p.last;
    }))

-- ---- what is read is the normal form

words-behind : (b : ℕ) (rest : List ℕ) → is_separator b ≡ true → words_of (b ∷ rest) ≡ words_of rest
words-behind b rest h = rw h refl

word-alone : (b c : ℕ) (rest : List ℕ) → is_separator b ≡ false → is_separator c ≡ true → words_of (b ∷ c ∷ rest) ≡ (b ∷ []) ∷ words_of (c ∷ rest)
word-alone b c rest h g = rw (h, g) refl

word-last : (b : ℕ) → is_separator b ≡ false → words_of (b ∷ []) ≡ (b ∷ []) ∷ []
word-last b h = rw h refl

-- a word that goes on, and the words behind it
record Word (b c : ℕ) (rest : List ℕ) : Type 0 where
  more : List ℕ
  others : List (List ℕ)
  here : words_of (b ∷ c ∷ rest) ≡ (b ∷ c ∷ more) ∷ others
  behind : words_of (c ∷ rest) ≡ (c ∷ more) ∷ others

word-goes_on : (b c : ℕ) (rest : List ℕ) → is_separator b ≡ false → is_separator c ≡ false → Word b c rest
word-goes_on b c rest h g = parted (slice_split is_separator rest) refl
  where
    parted : (ps : List (List ℕ)) → slice_split is_separator rest ≡ ps → Word b c rest
    parted [] e = record { more = []; others = []; here = rw (h, g, e) refl; behind = rw (g, e) refl }
    parted (p ∷ ps) e = record {
      more = p;
      others = filter (λ word. nat_lt 0 (length word)) ps;
      here = rw (h, g, e, some-length b (c ∷ p)) refl;
      behind = rw (g, e, some-length c p) refl;
    }

abbrev joined_words : List (List ℕ) → List ℕ
joined_words words = join_with_byte 45 (map (map to_ascii_lowercase) words)

longer : (b c : ℕ) (more : List ℕ) (others : List (List ℕ)) → joined_words ((b ∷ c ∷ more) ∷ others) ≡ to_ascii_lowercase b ∷ joined_words ((c ∷ more) ∷ others)
longer b c more [] = refl
longer b c more (other ∷ others) = refl

-- a text that ends in a letter or a digit has a word
record HasWord (text : List ℕ) : Type 0 where
  word : List ℕ
  others : List (List ℕ)
  are : words_of text ≡ word ∷ others

has-word : (text : List ℕ) → ends text ≡ true → HasWord text
has-word [] h = absurd cc
has-word (b ∷ []) h = record { word = b ∷ []; others = []; are = word-last b (letter-other b h) }
has-word (b ∷ c ∷ rest) h = elim (cases_Bool (is_separator b)) [
  | inl separator ↦ let w = has-word (c ∷ rest) h in record { word = w.word; others = w.others; are = words-behind b (c ∷ rest) separator ∙ w.are }
  | inr other ↦ elim (cases_Bool (is_separator c)) [
    | inl ends_word ↦ record { word = b ∷ []; others = words_of (c ∷ rest); are = word-alone b c rest other ends_word }
    | inr goes_on ↦ let w = word-goes_on b c rest other goes_on in record { word = b ∷ c ∷ w.more; others = w.others; are = w.here }
  ]
]

-- the hyphen that is read for separators at the front
abbrev lead : List ℕ → List ℕ
lead text = cond (starts_separated text) (45 ∷ []) []

lead-some : (b : ℕ) (rest : List ℕ) → is_separator b ≡ true → lead (b ∷ rest) ≡ 45 ∷ []
lead-some b rest h = rw h refl

lead-none : (b : ℕ) (rest : List ℕ) → is_separator b ≡ false → lead (b ∷ rest) ≡ []
lead-none b rest h = rw h refl

read-words : (text : List ℕ) → ends text ≡ true → normal_read text ≡ lead text ++ joined_words (words_of text)
unfolding normal_read
read-words [] h = absurd cc
read-words (b ∷ []) h = let other = letter-other b h in of-other b [] other ∙ rw other refl
read-words (b ∷ c ∷ rest) h = elim (cases_Bool (is_separator b)) [
  | inl separator ↦ elim (cases_Bool (is_separator c)) [
    | inl more ↦
        of-dropped b (c ∷ rest) separator more ∙ read-words (c ∷ rest) h
        ∙ (λ i. (lead-some c rest more ∙ sym (lead-some b (c ∷ rest) separator)) i ++ joined_words (sym (words-behind b (c ∷ rest) separator) i))
    | inr last ↦
        of-kept b (c ∷ rest) separator last ∙ ap (λ (l : List ℕ). 45 ∷ l) (read-words (c ∷ rest) h)
        ∙ ap (λ (l : List ℕ). 45 ∷ (l ++ joined_words (words_of (c ∷ rest)))) (lead-none c rest last)
        ∙ (λ i. sym (lead-some b (c ∷ rest) separator) i ++ joined_words (sym (words-behind b (c ∷ rest) separator) i))
  ]
  | inr other ↦ elim (cases_Bool (is_separator c)) [
    | inl ends_word ↦
        let w = has-word (c ∷ rest) h in
        let all = word-alone b c rest other ends_word ∙ ap (λ (ws : List (List ℕ)). (b ∷ []) ∷ ws) w.are in
        of-other b (c ∷ rest) other ∙ ap (λ (l : List ℕ). to_ascii_lowercase b ∷ l) (read-words (c ∷ rest) h)
        ∙ (λ i. to_ascii_lowercase b ∷ (lead-some c rest ends_word i ++ joined_words (w.are i)))
        ∙ (λ i. sym (lead-none b (c ∷ rest) other) i ++ joined_words (sym all i))
    | inr goes_on ↦
        let w = word-goes_on b c rest other goes_on in
        of-other b (c ∷ rest) other ∙ ap (λ (l : List ℕ). to_ascii_lowercase b ∷ l) (read-words (c ∷ rest) h)
        ∙ (λ i. to_ascii_lowercase b ∷ (lead-none c rest goes_on i ++ joined_words (w.behind i)))
        ∙ sym (longer b c w.more w.others)
        ∙ (λ i. sym (lead-none b (c ∷ rest) other) i ++ joined_words (sym w.here i))
  ]
]

-- what is read of a name is its normal form
pub normal-is_read : (text : List ℕ) → is_name text ≡ true → normal_read text ≡ normal_of text
unfolding normal_of
normal-is_read [] h = absurd cc
normal-is_read (b ∷ rest) h =
    let p = parts b rest h in
    read-words (b ∷ rest) p.last ∙ ap (λ (l : List ℕ). l ++ joined_words (words_of (b ∷ rest))) (lead-none b rest (letter-other b p.first))

-- and it is in its normal form
pub normal_is_normal : (text : List ℕ) → is_name text ≡ true → is_normal (normal_of text) ≡ true
normal_is_normal text h =
    let name = stays_name text h in
    let same : normal_of (normal_read text) ≡ normal_read text = sym (normal-is_read (normal_read text) name) ∙ again text in
    rw (← normal-is_read text h) (rw (name, (bytes_eq-Decides (normal_of (normal_read text)) (normal_read text)).1 same) refl)
