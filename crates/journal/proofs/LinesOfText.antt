-- The lines of a text are text.
use Rattle.std.proofs.Common.{◌≡◌, ◌+◌, ◌<◌, ℕ, true, List, [], ◌∷◌, ◌++◌, length, take, drop, get_or, IsUtf8, subst, arith, append_assoc, length-append}
use Rattle.std.proofs.Math.Seq.{drop-append-add, get_or-append-add, take-append_seam}
use Rattle.std.proofs.lemmas.Str.{IsCharBoundary-after_ascii, IsCharBoundary-before_ascii, IsUtf8-drop, IsUtf8-from_is_utf8, IsUtf8-take, is_utf8-from_IsUtf8}
use Rattle.std.specs.Str.{is_utf8}
use Rattle.serde_json.specs.Data.{Data}
use Rattle.serde_json.specs.Written.{compact_text}
use Rattle.journal_format.specs.Written.{line_of}

-- what stands before an LF, and what stands behind it
text-cut : (line rest : List ℕ) → is_utf8 (line ++ 10 ∷ rest) ≡ true → (is_utf8 line ≡ true) × (is_utf8 rest ≡ true)
text-cut line rest h =
    let text = line ++ 10 ∷ rest in
    let utf8 : IsUtf8 text = IsUtf8-from_is_utf8 text h in
    let within : length line < length text = omega (arith, length-append line (10 ∷ rest)) in
    let here : length line + 0 ≡ length line = omega arith in
    let byte : get_or text (length line) 0 ≡ 10 = subst (λ (n : ℕ). get_or text n 0 ≡ 10) here (get_or-append-add line (10 ∷ rest) 0 0) in
    let low : get_or text (length line) 0 < 128 = omega (arith, byte) in
    let front : IsUtf8 (take (length line) text) = IsUtf8-take text (length line) utf8 (IsCharBoundary-before_ascii text (length line) within low) in
    let back : IsUtf8 (drop (length line + 1) text) = IsUtf8-drop text (length line + 1) utf8 (IsCharBoundary-after_ascii text (length line) utf8 within low) in (
      is_utf8-from_IsUtf8 line (subst (λ (bytes : List ℕ). IsUtf8 bytes) (take-append_seam line (10 ∷ rest)) front),
      is_utf8-from_IsUtf8 rest (subst (λ (bytes : List ℕ). IsUtf8 bytes) (drop-append-add line (10 ∷ rest) 1) back),
    )

-- the text of a value's line, and what follows the line
pub line-text : (d : Data) (rest : List ℕ) → is_utf8 (line_of d ++ rest) ≡ true → (is_utf8 (compact_text d) ≡ true) × (is_utf8 rest ≡ true)
line-text d rest h = text-cut (compact_text d) rest (subst (λ (bytes : List ℕ). is_utf8 bytes ≡ true) (append_assoc (compact_text d) (10 ∷ []) rest) h)
