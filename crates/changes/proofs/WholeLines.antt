-- Lines that read, and are cut from one text.
use Rattle.std.proofs.Common.{◌≡◌, ◌<◌, ◌-◌, ◌∙◌, ◌⊎◌, ℕ, true, false, List, [], ◌∷◌, ◌++◌, Option, Result, Ok, Err, length, eqb, slice_index, not, is_ok, ap, sym, refl, subst, inl, inr, arith, append-nil}
use Rattle.std.specs.Prelude.{◌↔◌, IsTrue, nat_eq}
use Rattle.std.proofs.lemmas.Bool.{and_from, and_parts, cases_Bool, eqb-true}
use Rattle.std.proofs.lemmas.Bool.Decides.{nat_tests}
use Rattle.std.specs.List.{AllByRecursion, list_any}
use Rattle.markers.specs.declared.fault.Cause.{Cause}
use Rattle.pep508.specs.Lines.{AreLines, ends_in_line_feed, lines_of}
use Rattle.pep508.specs.Parts.{IsEnding, content_of, ending_of, has_odd, is_odd}
use Rattle.pep508.specs.Requirement.{IsLine, RequirementParts, requirement_of}
use Rattle.pep508.proofs.Endings.{wanted_by-plain}
use Rattle.pep508.proofs.JoinedLines.{lines_of-line}
use Rattle.pep508.proofs.LineCut.{line_parts}
use Rattle.pep508.proofs.LinesAreCut.{AreLines-from, AreOneByOne, OneByOne-from}
use Rattle.pep508.proofs.OddFacts.{ending_cases}
use Rattle.pep508.proofs.Slicewise.{line_asks}
use Rattle.changes.specs.Tied.Whole.{are_whole, is_whole}

-- ---- one line

-- LF is an odd character
no-lf : (text : List ℕ) → has_odd text ≡ false → list_any (λ b. eqb b 10) text ≡ false
unfolding has_odd
no-lf [] plain = refl
no-lf (b ∷ rest) plain = elim (cases_Bool (eqb b 10)) [
  | inl lf ↦ cc (rw (eqb-true b 10 lf) at plain)
  | inr other ↦ elim (cases_Bool (is_odd b rest)) [
    | inl odd ↦ cc (rw odd at plain)
    | inr even ↦ rw other (no-lf rest (rw even at plain))
  ]
]

-- a text without LF is one line
one-bare : (b : ℕ) (text : List ℕ) → list_any (λ c. eqb c 10) (b ∷ text) ≡ false → lines_of (b ∷ text) ≡ (b ∷ text) ∷ []
unfolding lines_of
one-bare b [] none = elim (cases_Bool (eqb b 10)) [
  | inl lf ↦ cc (rw lf at none)
  | inr other ↦ rw other refl
]
one-bare b (c ∷ text) none = elim (cases_Bool (eqb b 10)) [
  | inl lf ↦ cc (rw lf at none)
  | inr other ↦ rw (other, one-bare c text (rw other at none)) refl
]

one-with : (line content ending : List ℕ) → content ++ ending ≡ line → list_any (λ b. eqb b 10) content ≡ false → (ending ≡ []) ⊎ IsEnding ending → 0 < length line
    → lines_of line ≡ line ∷ []
unfolding lines_of
one-with line content ending joins none (inr is) some =
    let one = lines_of-line content ending [] none is in
    rw (← joins) (rw append-nil at one)
one-with line [] ending joins none (inl bare) some =
    let empty : length line ≡ 0 = ap length (sym joins ∙ bare) in absurd (omega arith)
one-with line (b ∷ content) ending joins none (inl bare) some =
    let same : b ∷ content ≡ line = sym (append-nil (b ∷ content)) ∙ ap (λ (e : List ℕ). (b ∷ content) ++ e) (sym bare) ∙ joins in
    subst (λ (l : List ℕ). lines_of l ≡ l ∷ []) same (one-bare b content none)

plain : (line : List ℕ) (read : Result (Option RequirementParts) Cause) → requirement_of line ≡ read → is_ok read ≡ true → has_odd (content_of line) ≡ false
plain line (Ok wanted) reads is = wanted_by-plain (content_of line) wanted (sym (line_asks line) ∙ reads)
plain line (Err cause) reads is = cc is

-- what reads and has a byte is one line
one-line : (line : List ℕ) → IsLine line → 0 < length line → lines_of line ≡ line ∷ []
one-line line is some =
    one-with line (content_of line) (ending_of line) (line_parts line) (no-lf (content_of line) (plain line (requirement_of line) refl is.reads)) (ending_cases line) some

-- ---- endings

bare-end : (line : List ℕ) → eqb (slice_index line (length line - 1)) 10 ≡ false → ending_of line ≡ []
bare-end line other = rw other refl

ended-lf : (line : List ℕ) → not (nat_eq (length (ending_of line)) 0) ≡ true → ends_in_line_feed line ≡ true
ended-lf line some = elim (cases_Bool (eqb (slice_index line (length line - 1)) 10)) [
  | inl lf ↦ lf
  | inr other ↦ cc (rw (bare-end line other) at some)
]

lf-ended : (line : List ℕ) → ends_in_line_feed line ≡ true → not (nat_eq (length (ending_of line)) 0) ≡ true
lf-ended line lf = elim (cases_Bool (eqb (slice_index line (length line - 2)) 13)) [
  | inl cr ↦ rw (lf, cr) refl
  | inr other ↦ rw (lf, other) refl
]

-- a line with LF at its end has a byte
lf-some : (line : List ℕ) → ends_in_line_feed line ≡ true → 0 < length line
lf-some [] lf = cc lf
lf-some (b ∷ rest) lf = omega arith

not-empty : (line : List ℕ) → not (nat_eq (length line) 0) ≡ true → 0 < length line
not-empty [] some = cc some
not-empty (b ∷ rest) some = omega arith

-- and so does one with an ending
pub ended-some : (line : List ℕ) → not (nat_eq (length (ending_of line)) 0) ≡ true → not (nat_eq (length line) 0) ≡ true
ended-some [] some = absurd (let h = lf-some [] (ended-lf [] some) in omega arith)
ended-some (b ∷ rest) some = grind (arith, nat_tests)

some-bytes : (line : List ℕ) → lines_of line ≡ line ∷ [] → not (nat_eq (length line) 0) ≡ true
unfolding lines_of
some-bytes [] one = cc one
some-bytes (b ∷ rest) one = grind (arith, nat_tests)

-- ---- all lines

one-by-one : (lines : List (List ℕ)) → AllByRecursion IsLine lines → are_whole lines ≡ true → AreOneByOne lines
one-by-one [] all whole = tt
one-by-one (line ∷ []) all whole =
    let parts = and_parts (is_whole line []) true whole in
    (one-line line all.0 (not-empty line parts.0), tt, tt)
one-by-one (line ∷ next ∷ rest) all whole =
    let parts = and_parts (is_whole line (next ∷ rest)) (are_whole (next ∷ rest)) whole in
    let lf = ended-lf line parts.0 in
    (one-line line all.0 (lf-some line lf), lf, one-by-one (next ∷ rest) all.1 parts.1)

whole-from : (lines : List (List ℕ)) → AreOneByOne lines → are_whole lines ≡ true
whole-from [] are = refl
whole-from (line ∷ []) are = and_from (is_whole line []) true (some-bytes line are.0) refl
whole-from (line ∷ next ∷ rest) are = and_from (is_whole line (next ∷ rest)) (are_whole (next ∷ rest)) (lf-ended line are.1) (whole-from (next ∷ rest) are.2)

-- lines that read are those of a text where they are whole
pub whole-lines : (lines : List (List ℕ)) → AllByRecursion IsLine lines → IsTrue (are_whole lines) ↔ AreLines lines
whole-lines lines all = (λ whole. AreLines-from lines (one-by-one lines all whole), λ are. whole-from lines (OneByOne-from lines are))

-- lines of a text are whole
pub whole-of : (lines : List (List ℕ)) → AreLines lines → are_whole lines ≡ true
whole-of lines are = whole-from lines (OneByOne-from lines are)
