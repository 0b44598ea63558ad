-- A line that gets an ending asks for what it asked for.
use Rattle.std.proofs.Common.{◌≡◌, ℕ, zero, suc, ◌+◌, ◌-◌, ◌<◌, List, [], ◌∷◌, ◌++◌, length, get_or, false, eqb, refl, inl, inr, arith, length-append, Option, Ok}
use Rattle.std.proofs.lemmas.Bool.{cases_Bool, eqb-true}
use Rattle.std.proofs.lemmas.List.{take_at, take_all, get_or-append-add, get_or_append_left}
use Rattle.pep508.specs.Parts.{IsEnding, content_of, ending_of, has_odd, is_control, is_marked, is_odd}
use Rattle.pep508.specs.Requirement.{RequirementParts, requirement_of, wanted_by}

-- the content of a line without an ending is the line
pub content_of-bare : (line : List ℕ) → length (ending_of line) ≡ 0 → content_of line ≡ line
content_of-bare line bare = take_all _ line (omega arith)

-- no byte of a line without odd characters is a control character
pub plain-at : (line : List ℕ) (k : ℕ) → k < length line → has_odd line ≡ false → is_control (get_or line k 0) ≡ false
unfolding has_odd
plain-at [] k within plain = absurd (omega arith)
plain-at (b ∷ rest) zero within plain = elim (cases_Bool (is_control b)) [
  | inl control ↦ cc (rw control at plain)
  | inr other ↦ other
]
plain-at (b ∷ rest) (suc k) within plain = elim (cases_Bool (is_odd b rest)) [
  | inl odd ↦ cc (rw odd at plain)
  | inr other ↦ plain-at rest k (omega arith) (rw other at plain)
]

-- CR is a control character
not_cr : (b : ℕ) → is_control b ≡ false → eqb b 13 ≡ false
not_cr b plain = elim (cases_Bool (eqb b 13)) [
  | inl cr ↦ cc (rw (eqb-true b 13 cr) at plain)
  | inr other ↦ other
]

-- what stands before the LF that a line got is no CR
before_lf : (line : List ℕ) → has_odd line ≡ false → eqb (get_or (line ++ 10 ∷ []) (length line - 1) 0) 13 ≡ false
before_lf [] plain = refl
before_lf (b ∷ rest) plain =
    let within : length (b ∷ rest) - 1 < length (b ∷ rest) = omega arith in
    rw (get_or_append_left (b ∷ rest) (10 ∷ []) 0 (length (b ∷ rest) - 1) within) (not_cr _ (plain-at (b ∷ rest) _ within plain))

-- a line that got LF or CR and LF has that ending
pub ending_of-ended : (line ending : List ℕ) → has_odd line ≡ false → IsEnding ending → ending_of (line ++ ending) ≡ ending
ending_of-ended line ending plain (inl lf) =
    let last : length (line ++ 10 ∷ []) - 1 ≡ length line + 0 = omega (arith, length-append line (10 ∷ [])) in
    let second : length (line ++ 10 ∷ []) - 2 ≡ length line - 1 = omega (arith, length-append line (10 ∷ [])) in
    rw (lf, last, get_or-append-add, second, before_lf line plain) refl
ending_of-ended line ending plain (inr crlf) =
    let last : length (line ++ 13 ∷ 10 ∷ []) - 1 ≡ length line + 1 = omega (arith, length-append line (13 ∷ 10 ∷ [])) in
    let second : length (line ++ 13 ∷ 10 ∷ []) - 2 ≡ length line + 0 = omega (arith, length-append line (13 ∷ 10 ∷ [])) in
    rw (crlf, last, second, get_or-append-add line (13 ∷ 10 ∷ []) 1 0, get_or-append-add line (13 ∷ 10 ∷ []) 0 0) refl

-- the content of a line that got an ending is the line, where it has no odd characters
pub content_of-ended : (line ending : List ℕ) → has_odd line ≡ false → IsEnding ending → content_of (line ++ ending) ≡ line
content_of-ended line ending plain is =
    let same = ending_of-ended line ending plain is in
    let n : length (line ++ ending) - length (ending_of (line ++ ending)) ≡ length line = rw same (omega (arith, length-append line ending)) in
    rw n (take_at line ending (length line) refl)

-- what asks for something has no odd characters
pub wanted_by-plain : (content : List ℕ) (wanted : Option RequirementParts) → wanted_by content ≡ Ok wanted → has_odd content ≡ false
unfolding wanted_by
wanted_by-plain content wanted reads = elim (cases_Bool (is_marked content)) [
  | inl marked ↦ cc (rw marked at reads)
  | inr bare ↦ elim (cases_Bool (has_odd content)) [
    | inl odd ↦ cc (rw (bare, odd) at reads)
    | inr plain ↦ plain
  ]
]

-- a line that gets an ending asks for what it asked for
pub requirement_of-ended : (line ending : List ℕ) (wanted : Option RequirementParts) → length (ending_of line) ≡ 0 → IsEnding ending
    → requirement_of line ≡ Ok wanted → requirement_of (line ++ ending) ≡ Ok wanted
unfolding requirement_of
requirement_of-ended line ending wanted bare is reads =
    let read : wanted_by line ≡ Ok wanted = rw (content_of-bare line bare) at reads in
    rw (content_of-ended line ending (wanted_by-plain line wanted read) is) read
