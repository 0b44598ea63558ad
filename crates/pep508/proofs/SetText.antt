-- The text of a set that is put into a line.
use Rattle.std.proofs.Common.{◌≡◌, ℕ, ◌-◌, ◌<◌, ◌∙◌, ◌==◌, ◌⊎◌, not, Bool, true, false, eqb, List, [], ◌∷◌, length, nat_le, get_or, refl, ap, sym, inl, inr, arith}
use Rattle.std.proofs.lemmas.Bool.{cases_Bool, eqb-true}
use Rattle.std.proofs.lemmas.Bool.Decides.{nat_tests}
use Rattle.std.specs.Cmp.{first_so, second_so}
use Rattle.std.specs.List.{list_all}
use Rattle.pep440.specs.SetGrammar.{begins_operator, is_set_byte}
use Rattle.markers.specs.Names.{is_name_byte}
use Rattle.pep508.specs.Parts.{begins_with, is_space_or_tab}
use Rattle.pep508.specs.Requirement.{set_text}
use Rattle.pep508.specs.Slices.{IsVersionSlice}
use Rattle.pep508.proofs.LineCut.{all_at}
use Rattle.pep508.proofs.OddFacts.{is_plain}
use Rattle.pep508.proofs.Runs.{Stops}

-- a text that neither begins nor ends with space, of bytes of a set, begun by an operator where it isn't empty
pub record IsSetText (text : List ℕ) : Type 0 where
  pub bytes : list_all is_set_byte text ≡ true
  pub begins : (text ≡ []) ⊎ (begins_operator (get_or text 0 0) ≡ true)
  pub first : is_space_or_tab (get_or text 0 0) ≡ false
  pub last : is_space_or_tab (get_or text (length text - 1) 0) ≡ false

set_byte_plain : (b : ℕ) → is_set_byte b ≡ true → is_plain b ≡ true
set_byte_plain b h = grind (arith, nat_tests)

set_byte_no_hash : (b : ℕ) → is_set_byte b ≡ true → not (b == 35) ≡ true
set_byte_no_hash b h = grind (arith, nat_tests)

set_byte_no_semicolon : (b : ℕ) → is_set_byte b ≡ true → not (b == 59) ≡ true
set_byte_no_semicolon b h = grind (arith, nat_tests)

set_byte_no_backslash : (b : ℕ) → is_set_byte b ≡ true → eqb b 92 ≡ false
set_byte_no_backslash b h = grind (arith, nat_tests)

set_byte_ascii : (b : ℕ) → is_set_byte b ≡ true → b < 128
set_byte_ascii b h = grind (arith, nat_tests)

all_weaker : (p q : ℕ → Bool) (xs : List ℕ) → ((b : ℕ) → p b ≡ true → q b ≡ true) → list_all p xs ≡ true → list_all q xs ≡ true
all_weaker p q [] weaker all = refl
all_weaker p q (x ∷ xs) weaker all =
    rw (weaker x (first_so (p x) (list_all p xs) all)) (all_weaker p q xs weaker (second_so (p x) (list_all p xs) all))

pub set_plain : (text : List ℕ) → IsSetText text → list_all is_plain text ≡ true
set_plain text h = all_weaker is_set_byte is_plain text set_byte_plain h.bytes

pub set_no_hash : (text : List ℕ) → IsSetText text → list_all (λ b. not (b == 35)) text ≡ true
set_no_hash text h = all_weaker is_set_byte (λ b. not (b == 35)) text set_byte_no_hash h.bytes

-- the last byte of what isn't empty
pub set_last : (text : List ℕ) → 0 < length text → IsSetText text → (get_or text (length text - 1) 0 < 128) × (eqb (get_or text (length text - 1) 0) 92 ≡ false)
set_last text some h =
    let byte = all_at is_set_byte text (length text - 1) (omega arith) h.bytes in
    (set_byte_ascii _ byte, set_byte_no_backslash _ byte)

operator_is : (b c : ℕ) → begins_operator b ≡ true → begins_operator c ≡ false → eqb b c ≡ false
operator_is b c is other = elim (cases_Bool (eqb b c)) [
  | inl same ↦ absurd (let h = rw (eqb-true b c same) at is in let n = sym other ∙ h in cc)
  | inr differs ↦ differs
]

-- what doesn't begin an operator doesn't begin the text
pub set_first : (byte : ℕ) (text : List ℕ) → IsSetText text → begins_operator byte ≡ false → eqb 0 byte ≡ false → begins_with byte text ≡ false
set_first byte text h other some = elim h.begins [
  | inl empty ↦ rw empty some
  | inr begins ↦ operator_is (get_or text 0 0) byte begins other
]

operator_no_name : (b : ℕ) → begins_operator b ≡ true → is_name_byte b ≡ false
operator_no_name b h = grind (arith, nat_tests)

pub set_stops_name : (text : List ℕ) → IsSetText text → Stops is_name_byte text
set_stops_name [] h = tt
set_stops_name (b ∷ rest) h = elim h.begins [
  | inl empty ↦ absurd (omega (arith, ap length empty))
  | inr begins ↦ operator_no_name b begins
]

-- it may be a version part
pub set_version : (extras text : List ℕ) → IsSetText text → IsVersionSlice extras text
set_version extras text h = record {
  ends = all_weaker is_set_byte (λ b. not (b == 59)) text set_byte_no_semicolon h.bytes;
  first = h.first;
  last = h.last;
  no_extras = λ _. set_first 91 text h refl refl;
}

-- it is a set without parentheses
pub set_text_is : (text : List ℕ) → IsSetText text → set_text text ≡ text
set_text_is text h =
    let bare = set_first 40 text h refl refl in
    elim (cases_Bool (nat_le 2 (length text))) [ inl two ↦ rw (two, bare) refl | inr less ↦ rw less refl ]
