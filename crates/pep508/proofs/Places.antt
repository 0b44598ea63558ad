-- Where a line may be cut.
use Rattle.std.proofs.Common.{◌≡◌, ℕ, ◌+◌, ◌<◌, ◌≤◌, ◌&&◌, ◌==◌, not, List, [], ◌∷◌, length, get_or, drop, Bool, true, false, ◌∙◌, refl, arith, inl, inr}
use Rattle.std.proofs.lemmas.Bool.Decides.{nat_tests}
use Rattle.std.proofs.lemmas.Bool.{cases_lt, eqb-true}
use Rattle.std.proofs.lemmas.List.{at_drop_more}
use Rattle.std.proofs.lemmas.List.Sums.{passes_at_first, prefix_len-le-length}
use Rattle.std.proofs.lemmas.Str.{IsCharBoundary-after_ascii, IsCharBoundary-before_ascii, IsCharBoundary-end}
use Rattle.std.specs.Str.{IsCharBoundary, IsUtf8}
use Rattle.markers.specs.Names.{is_name_byte}
use Rattle.pep508.specs.Parts.{begins_with, comment_place, is_space_or_tab, place_of}

-- a byte of a name is ASCII
pub is_name_byte-ascii : (b : ℕ) → is_name_byte b ≡ true → b < 128
is_name_byte-ascii b e = grind (arith, nat_tests)

-- no comment begins here, so its place lies one further
pub comment_place-more : (at_start : Bool) (text : List ℕ) (i : ℕ) → i < length text → at_start && (get_or text i 0 == 35) ≡ false
    → comment_place at_start (drop i text) ≡ 1 + comment_place (is_space_or_tab (get_or text i 0)) (drop (i + 1) text)
unfolding comment_place
comment_place-more at_start text i within other = at_drop_more (comment_place at_start) text i 0 within ∙ rw other (omega arith)

-- a comment begins here
pub comment_place-here : (text : List ℕ) (i : ℕ) → i < length text → get_or text i 0 ≡ 35 → comment_place true (drop i text) ≡ 0
unfolding comment_place
comment_place-here text i within hash = at_drop_more (comment_place true) text i 0 within ∙ rw hash refl

-- the place of a byte lies within the text, and the byte stands there
pub place_of-within : (byte : ℕ) (text : List ℕ) → place_of byte text ≤ length text
place_of-within byte text = prefix_len-le-length (λ b. not (b == byte)) text

pub place_of-stands : (byte : ℕ) (text : List ℕ) → place_of byte text < length text → get_or text (place_of byte text) 0 ≡ byte
place_of-stands byte text within = eqb-true _ _ (passes_at_first (λ b. b == byte) text 0 within)

-- a text may be cut before the first of an ASCII character, and behind it
pub place_of-cut : (byte : ℕ) (text : List ℕ) → byte < 128 → IsCharBoundary text (place_of byte text)
place_of-cut byte text ascii = elim (cases_lt (place_of byte text) (length text)) [
  | inl within ↦ IsCharBoundary-before_ascii text (place_of byte text) within (omega (arith, place_of-stands byte text within))
  | inr end ↦ let same : place_of byte text ≡ length text = omega (arith, place_of-within byte text) in rw same (IsCharBoundary-end text)
]

-- a text that begins with an ASCII character may be cut behind it
pub begins_with-cut : (byte : ℕ) (text : List ℕ) → 0 < byte → byte < 128 → IsUtf8 text → begins_with byte text ≡ true → IsCharBoundary text 1
begins_with-cut byte [] some ascii utf8 begins = absurd (omega (arith, eqb-true 0 byte begins))
begins_with-cut byte (b ∷ rest) some ascii utf8 begins =
    IsCharBoundary-after_ascii (b ∷ rest) 0 utf8 (omega arith) (omega (arith, eqb-true b byte begins))
