-- The lines of a journal are cut where they were joined: no value is written with an LF.
use Rattle.std.proofs.Common.{◌≡◌, ◌≢◌, ℕ, zero, suc, ◌+◌, ◌/◌, ◌%◌, ◌==◌, ◌||◌, Bool, true, false, cond, not, List, [], ◌∷◌, ◌++◌, length, length-append, Some, append_assoc, refl, sym, subst, arith, nat_lt, pos, negsuc, true≢false}
use Rattle.std.specs.Prelude.{if◌then◌else◌, position, decimal}
use Rattle.std.specs.List.{list_all, prefix_len}
use Rattle.std.specs.Char.{digit_char}
use Rattle.std.specs.Fmt.{digit_glyph, digits, digits_onto}
use Rattle.std.proofs.Math.Seq.{drop-append-add, take-append_seam}
use Rattle.std.proofs.lemmas.Bool.{and_parts}
use Rattle.std.proofs.lemmas.Bool.Decides.{nat_tests}
use Rattle.std.proofs.lemmas.List.Folds.{list_all-append}
use Rattle.json.specs.Print.{escape, escape_byte, escape_letter, quoted}
use Rattle.serde_json.specs.Data.{Data, Num, unsigned, negative, float, null, boolean, number, string, array, object, Items, no_items, item, Members, no_members, member}
use Rattle.serde_json.specs.Written.{comma_if, compact_text, items_text, members_text, number_text}
use Rattle.journal_format.specs.Lines.{cut_line}
use Rattle.journal_format.specs.Written.{line_of}

-- a byte that ends no line
abbrev is_inner : ℕ → Bool
is_inner b = not (b == 10)

-- a text without an end of a line
abbrev pub IsInner : List ℕ → Type 0
IsInner text = list_all is_inner text ≡ true

inner-append : (xs ys : List ℕ) → IsInner xs → IsInner ys → IsInner (xs ++ ys)
inner-append xs ys h g = rw (list_all-append is_inner xs ys, h, g) refl

inner-byte : (b : ℕ) → b ≢ 10 → is_inner b ≡ true
inner-byte b h = grind (arith, nat_tests)

inner-cons : (b : ℕ) (text : List ℕ) → b ≢ 10 → IsInner text → IsInner (b ∷ text)
inner-cons b text h g = rw (inner-byte b h, g) refl

-- ---- numbers

glyph-other : (small : Bool) (d : ℕ) → (if small then 48 + d else 87 + d) ≢ 10
glyph-other true d is = absurd (omega (arith, is))
glyph-other false d is = absurd (omega (arith, is))

either-inner : (last : Bool) (one more : List ℕ) → IsInner one → IsInner more → IsInner (if last then one else more)
either-inner true one more h g = h
either-inner false one more h g = g

onto-inner : (k n : ℕ) (front : List ℕ) → IsInner front → IsInner (digits_onto k 10 false n front)
onto-inner zero n front h = h
onto-inner (suc k) n front h =
    let digit = digit_glyph false (n % 10) in
    let next = inner-cons digit front (glyph-other (nat_lt (n % 10) 10) (n % 10)) h in
    either-inner (n / 10 == 0) (digit ∷ front) (digits_onto k 10 false (n / 10) (digit ∷ front)) next (onto-inner k (n / 10) (digit ∷ front) next)

decimal-inner : (n : ℕ) → IsInner (decimal n)
unfolding digits
decimal-inner n = onto-inner 64 n [] refl

number-inner : (n : Num) → IsInner (number_text n)
number-inner (unsigned n) = decimal-inner n
number-inner (negative (pos n)) = decimal-inner n
number-inner (negative (negsuc n)) = inner-cons 45 (decimal (suc n)) (λ is. absurd (omega (arith, is))) (decimal-inner (suc n))
number-inner (float x) = refl

-- ---- texts

letter_by : (x : ℕ) (a b c d e f : Bool) → (a ≡ true → x ≢ 10) → cond a x (cond b 98 (cond c 102 (cond d 110 (cond e 114 (cond f 116 0))))) ≢ 10
letter_by x true b c d e f h is = h refl is
letter_by x false true c d e f h is = absurd (omega (arith, is))
letter_by x false false true d e f h is = absurd (omega (arith, is))
letter_by x false false false true e f h is = absurd (omega (arith, is))
letter_by x false false false false true f h is = absurd (omega (arith, is))
letter_by x false false false false false true h is = absurd (omega (arith, is))
letter_by x false false false false false false h is = absurd (omega (arith, is))

own-letter : (x : ℕ) → ((x == 34) || (x == 92)) ≡ true → x ≢ 10
own-letter x h is = true≢false (sym (subst (λ (y : ℕ). ((y == 34) || (y == 92)) ≡ true) is h))

letter-other : (x : ℕ) → escape_letter x ≢ 10
letter-other x = letter_by x ((x == 34) || (x == 92)) (x == 8) (x == 12) (x == 10) (x == 13) (x == 9) (own-letter x)

digit-other : (small : Bool) (d : ℕ) → cond small (48 + d) (87 + d) ≢ 10
digit-other true d is = absurd (omega (arith, is))
digit-other false d is = absurd (omega (arith, is))

byte_by : (x letter : ℕ) (escaped small : Bool) → letter ≢ 10 → (escaped ≡ false → x ≢ 10)
    → IsInner (cond escaped (92 ∷ letter ∷ []) (cond small (92 ∷ 117 ∷ 48 ∷ 48 ∷ digit_char (x / 16) ∷ digit_char (x % 16) ∷ []) (x ∷ [])))
byte_by x letter true small other plain = inner-cons 92 (letter ∷ []) (λ is. absurd (omega (arith, is))) (inner-cons letter [] other refl)
byte_by x letter false true other plain =
    inner-append (92 ∷ 117 ∷ 48 ∷ 48 ∷ []) (digit_char (x / 16) ∷ digit_char (x % 16) ∷ []) refl
    (inner-cons (digit_char (x / 16)) (digit_char (x % 16) ∷ []) (digit-other (nat_lt (x / 16) 10) (x / 16))
    (inner-cons (digit_char (x % 16)) [] (digit-other (nat_lt (x % 16) 10) (x % 16)) refl))
byte_by x letter false false other plain = inner-cons x [] (plain refl) refl

unescaped-other : (x : ℕ) → nat_lt 0 (escape_letter x) ≡ false → x ≢ 10
unescaped-other x h is = true≢false (subst (λ (y : ℕ). nat_lt 0 (escape_letter y) ≡ false) is h)

byte-inner : (x : ℕ) → IsInner (escape_byte x)
unfolding escape_byte
byte-inner x = byte_by x (escape_letter x) (nat_lt 0 (escape_letter x)) (nat_lt x 32) (letter-other x) (unescaped-other x)

escape-inner : (text : List ℕ) → IsInner (escape text)
escape-inner [] = refl
escape-inner (x ∷ text) = inner-append (escape_byte x) (escape text) (byte-inner x) (escape-inner text)

quoted-inner : (text : List ℕ) → IsInner (quoted text)
quoted-inner text = inner-append (34 ∷ escape text) (34 ∷ []) (inner-cons 34 (escape text) (λ is. absurd (omega (arith, is))) (escape-inner text)) refl

-- ---- values

comma-inner : (later : Bool) → IsInner (comma_if later)
comma-inner true = refl
comma-inner false = refl

mutual
  pub compact-inner : (d : Data) → IsInner (compact_text d)
  compact-inner null = refl
  compact-inner (boolean true) = refl
  compact-inner (boolean false) = refl
  compact-inner (number n) = number-inner n
  compact-inner (string s) = quoted-inner s
  compact-inner (array ds) = items-inner false ds
  compact-inner (object ms) = members-inner false ms

  items-inner : (later : Bool) (ds : Items) → IsInner (items_text later ds)
  items-inner later no_items = refl
  items-inner later (item d ds) =
      inner-append (comma_if later) (compact_text d ++ items_text true ds) (comma-inner later) (inner-append (compact_text d) (items_text true ds) (compact-inner d) (items-inner true ds))

  members-inner : (later : Bool) (ms : Members) → IsInner (members_text later ms)
  members-inner later no_members = refl
  members-inner later (member k d ms) =
      inner-append (comma_if later) (quoted k ++ 58 ∷ (compact_text d ++ members_text true ms)) (comma-inner later)
      (inner-append (quoted k) (58 ∷ (compact_text d ++ members_text true ms)) (quoted-inner k)
      (inner-append (compact_text d) (members_text true ms) (compact-inner d) (members-inner true ms)))

-- ---- lines

prefix-inner : (xs ys : List ℕ) → IsInner xs → prefix_len is_inner (xs ++ 10 ∷ ys) ≡ length xs
prefix-inner [] ys h = refl
prefix-inner (x ∷ xs) ys h =
    let parts = and_parts (is_inner x) (list_all is_inner xs) h in
    rw (parts.0, prefix-inner xs ys parts.1) (omega arith)

place-inner : (xs ys : List ℕ) → IsInner xs → position (λ b. b == 10) (xs ++ 10 ∷ ys) ≡ Some (length xs)
place-inner xs ys h =
    let within : nat_lt (length xs) (length (xs ++ 10 ∷ ys)) ≡ true = let size = length-append xs (10 ∷ ys) in grind (arith, nat_tests) in
    rw (prefix-inner xs ys h, within) refl

cut-inner : (xs ys : List ℕ) → IsInner xs → cut_line (xs ++ 10 ∷ ys) ≡ Some (xs, ys)
cut-inner xs ys h = rw (place-inner xs ys h, take-append_seam xs (10 ∷ ys), drop-append-add xs (10 ∷ ys) 1) refl

-- bytes that begin with the line of a value are cut behind it
pub cut-written : (d : Data) (rest : List ℕ) → cut_line (line_of d ++ rest) ≡ Some (compact_text d, rest)
cut-written d rest = rw append_assoc (cut-inner (compact_text d) rest (compact-inner d))
