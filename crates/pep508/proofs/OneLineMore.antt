-- What follows lines: one line more.
use Rattle.std.proofs.Common.{◌≡◌, ℕ, ◌∙◌, List, [], ◌∷◌, ◌++◌, Ok, eqb, false, ap, sym, inl, inr, append_assoc, append-nil}
use Rattle.std.proofs.lemmas.Bool.{cases_Bool}
use Rattle.std.proofs.lemmas.List.{append_cancel_left}
use Rattle.std.proofs.lemmas.List.Folds.{concat-append}
use Rattle.std.specs.List.{concat, list_any}
use Rattle.std.specs.Str.{is_utf8}
use Rattle.pep508.specs.Lines.{AreLines, lines_of}
use Rattle.pep508.specs.Parts.{IsEnding, ended}
use Rattle.pep508.specs.Requirement.{file_of, first_fault}
use Rattle.pep508.proofs.Files.{unless-Ok}
use Rattle.pep508.proofs.JoinedLines.{ended-behind, lines_of-behind, lines_of-given, lines_of-text}
use Rattle.pep508.proofs.LinesAreCut.{AreCut, AreLines-cut, AreLines-lines_of, cut-AreLines}

-- what is read of a file are lines
pub AreLines-file_of : (bytes : List ℕ) (lines : List (List ℕ)) → file_of bytes ≡ Ok lines → AreLines lines
AreLines-file_of bytes lines reads = elim (cases_Bool (is_utf8 bytes)) [
  | inl utf8 ↦ rw (unless-Ok (lines_of bytes) lines (first_fault 1 (lines_of bytes)) (rw utf8 at reads)) (AreLines-lines_of bytes)
  | inr other ↦ cc (rw other at reads)
]

cut-first : (line ending : List ℕ) → list_any (λ b. eqb b 10) line ≡ false → IsEnding ending → AreCut (ended ending line ∷ [])
cut-first line ending none is = rw append-nil (lines_of-text ending line none is)

-- the last of lines is a line
last-one : (lines : List (List ℕ)) (last : List ℕ) → AreCut (lines ++ last ∷ []) → lines_of last ≡ last ∷ []
last-one lines last are =
    let text = concat (lines ++ last ∷ []) in
    let again : lines_of (text ++ []) ≡ lines ++ lines_of (last ++ []) = lines_of-behind text [] lines last are in
    append_cancel_left lines (lines_of last) (last ∷ []) (sym (rw (append-nil text, append-nil last, are) at again))

-- lines stay lines with a text behind them, where the last of them and the text have an ending, or are given one
cut-next : (lines : List (List ℕ)) (last line ending : List ℕ) → AreCut (lines ++ last ∷ []) → list_any (λ b. eqb b 10) line ≡ false
    → IsEnding ending → AreCut (lines ++ ended ending last ∷ ended ending line ∷ [])
cut-next lines last line ending are none is =
    let added = ended-behind ending last in
    let next = ended ending line in
    let text = concat (lines ++ last ∷ []) in
    let old : text ≡ concat lines ++ last = concat-append lines (last ∷ []) ∙ ap (λ (t : List ℕ). concat lines ++ t) (append-nil last) in
    let tail : last ++ (added.0 ++ next) ≡ ended ending last ++ next = sym (append_assoc last added.0 next) ∙ ap (λ (t : List ℕ). t ++ next) (sym added.1) in
    let whole : concat (lines ++ ended ending last ∷ next ∷ []) ≡ text ++ (added.0 ++ next) =
    concat-append lines (ended ending last ∷ next ∷ []) ∙ ap (λ (t : List ℕ). concat lines ++ (ended ending last ++ t)) (append-nil next)
    ∙ ap (λ (t : List ℕ). concat lines ++ t) (sym tail) ∙ sym (append_assoc (concat lines) last (added.0 ++ next)) ∙ ap (λ (t : List ℕ). t ++ (added.0 ++ next)) (sym old) in
    let cut : lines_of (text ++ (added.0 ++ next)) ≡ lines ++ lines_of (last ++ (added.0 ++ next)) = lines_of-behind text (added.0 ++ next) lines last are in
    let behind : lines_of (ended ending last ++ next) ≡ ended ending last ∷ next ∷ [] =
    lines_of-given ending last next (last-one lines last are) is ∙ ap (λ (ls : List (List ℕ)). ended ending last ∷ ls) (lines_of-text ending line none is) in
    ap lines_of whole ∙ cut ∙ ap (λ (t : List ℕ). lines ++ lines_of t) tail ∙ ap (λ (ls : List (List ℕ)). lines ++ ls) behind

pub AreLines-first : (line ending : List ℕ) → list_any (λ b. eqb b 10) line ≡ false → IsEnding ending → AreLines (ended ending line ∷ [])
AreLines-first line ending none is = AreLines-cut (ended ending line ∷ []) (cut-first line ending none is)

pub AreLines-next : (lines : List (List ℕ)) (last line ending : List ℕ) → AreLines (lines ++ last ∷ []) → list_any (λ b. eqb b 10) line ≡ false
    → IsEnding ending → AreLines (lines ++ ended ending last ∷ ended ending line ∷ [])
AreLines-next lines last line ending are none is =
    AreLines-cut (lines ++ ended ending last ∷ ended ending line ∷ []) (cut-next lines last line ending (cut-AreLines (lines ++ last ∷ []) are) none is)
