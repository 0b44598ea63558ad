-- Lines that are joined and cut again.
use Rattle.std.proofs.Common.{◌≡◌, ℕ, suc, ◌-◌, ◌∙◌, List, [], ◌∷◌, ◌++◌, length, eqb, slice_index, true, false, ap, sym, refl, inl, inr, arith, append_assoc, append-nil}
use Rattle.std.proofs.lemmas.Bool.{cases_Bool}
use Rattle.std.specs.List.{concat, list_any, onto_first}
use Rattle.pep508.specs.Lines.{lines_of}
use Rattle.pep508.specs.Parts.{IsEnding, ended}
use Rattle.pep508.proofs.Files.{concat-lines_of}

-- a byte before the first of lines, some more of them behind it
onto_first-first : (b : ℕ) (cut lines : List (List ℕ)) (line last : List ℕ) → onto_first b cut ≡ line ∷ (lines ++ last ∷ [])
    → (l : List ℕ) × ((line ≡ b ∷ l) × (cut ≡ l ∷ (lines ++ last ∷ [])))
onto_first-first b [] [] line last e = cc e
onto_first-first b [] (x ∷ lines) line last e = cc e
onto_first-first b (l ∷ cut) lines line last e = (l, (cc e, cc e))

-- what follows a text follows its last line
pub lines_of-behind : (text more : List ℕ) (lines : List (List ℕ)) (last : List ℕ) → lines_of text ≡ lines ++ last ∷ []
    → lines_of (text ++ more) ≡ lines ++ lines_of (last ++ more)
unfolding lines_of
lines_of-behind text more [] last cut =
    let same : text ≡ last = sym (concat-lines_of text) ∙ ap concat cut ∙ append-nil last in
    ap (λ (t : List ℕ). lines_of (t ++ more)) same
lines_of-behind [] more (line ∷ lines) last cut = cc cut
lines_of-behind (b ∷ text) more (line ∷ lines) last cut = elim (cases_Bool (eqb b 10)) [
  | inl lf ↦
      let here : (b ∷ []) ∷ lines_of text ≡ line ∷ (lines ++ last ∷ []) = rw lf at cut in
      let rest : lines_of text ≡ lines ++ last ∷ [] = cc here in
      let first : line ≡ b ∷ [] = cc here in
      rw (lf, first, lines_of-behind text more lines last rest) refl
  | inr other ↦
      let first = onto_first-first b (lines_of text) lines line last (rw other at cut) in
      rw (other, first.1.0, lines_of-behind text more (first.0 ∷ lines) last first.1.1) refl
]

-- a text without LF is one line with the ending behind it
pub lines_of-line : (text ending rest : List ℕ) → list_any (λ b. eqb b 10) text ≡ false → IsEnding ending
    → lines_of (text ++ (ending ++ rest)) ≡ (text ++ ending) ∷ lines_of rest
unfolding lines_of
lines_of-line [] ending rest none (inl lf) = rw lf refl
lines_of-line [] ending rest none (inr crlf) = rw crlf refl
lines_of-line (b ∷ text) ending rest none is = elim (cases_Bool (eqb b 10)) [
  | inl lf ↦ cc (rw lf at none)
  | inr other ↦ rw (other, lines_of-line text ending rest (rw other at none) is) refl
]

-- the last byte of a text is that of the text without its first
pub last_byte : (b c : ℕ) (text : List ℕ) → slice_index (b ∷ c ∷ text) (length (b ∷ c ∷ text) - 1) ≡ slice_index (c ∷ text) (length (c ∷ text) - 1)
last_byte b c text =
    let place : length (b ∷ c ∷ text) - 1 ≡ suc (length (c ∷ text) - 1) = omega arith in
    rw place refl

-- a line without its first byte is a line
pub onto_first-one : (b : ℕ) (cut : List (List ℕ)) (c : ℕ) (text : List ℕ) → onto_first b cut ≡ (b ∷ c ∷ text) ∷ [] → cut ≡ (c ∷ text) ∷ []
onto_first-one b [] c text e = cc e
onto_first-one b (l ∷ cut) c text e = cc e

-- a line that ends in LF stays a line
pub lines_of-ended : (line rest : List ℕ) → lines_of line ≡ line ∷ [] → eqb (slice_index line (length line - 1)) 10 ≡ true
    → lines_of (line ++ rest) ≡ line ∷ lines_of rest
unfolding lines_of
lines_of-ended [] rest one lf = cc one
lines_of-ended (b ∷ []) rest one lf = rw lf refl
lines_of-ended (b ∷ c ∷ line) rest one lf = elim (cases_Bool (eqb b 10)) [
  | inl early ↦ cc (rw early at one)
  | inr other ↦
      let shorter = onto_first-one b (lines_of (c ∷ line)) c line (rw other at one) in
      rw (other, lines_of-ended (c ∷ line) rest shorter (rw (last_byte b c line) at lf)) refl
]

-- a line that doesn't end in LF has none
line-bare : (line : List ℕ) → lines_of line ≡ line ∷ [] → eqb (slice_index line (length line - 1)) 10 ≡ false → list_any (λ b. eqb b 10) line ≡ false
unfolding lines_of
line-bare [] one bare = refl
line-bare (b ∷ []) one bare = rw bare refl
line-bare (b ∷ c ∷ line) one bare = elim (cases_Bool (eqb b 10)) [
  | inl early ↦ cc (rw early at one)
  | inr other ↦
      let shorter = onto_first-one b (lines_of (c ∷ line)) c line (rw other at one) in
      rw (other, line-bare (c ∷ line) shorter (rw (last_byte b c line) at bare)) refl
]

-- a text without LF doesn't end in LF
bare-last : (text : List ℕ) → list_any (λ b. eqb b 10) text ≡ false → eqb (slice_index text (length text - 1)) 10 ≡ false
bare-last [] none = refl
bare-last (b ∷ []) none = elim (cases_Bool (eqb b 10)) [
  | inl lf ↦ cc (rw lf at none)
  | inr other ↦ other
]
bare-last (b ∷ c ∷ text) none = elim (cases_Bool (eqb b 10)) [
  | inl lf ↦ cc (rw lf at none)
  | inr other ↦ rw (last_byte b c text) (bare-last (c ∷ text) (rw other at none))
]

-- a line that ends in LF is given nothing
ended-kept : (ending line : List ℕ) → eqb (slice_index line (length line - 1)) 10 ≡ true → ended ending line ≡ line
ended-kept ending line lf = elim (cases_Bool (eqb (slice_index line (length line - 2)) 13)) [
  | inl cr ↦ rw (lf, cr) refl
  | inr other ↦ rw (lf, other) refl
]

-- one that doesn't is given the ending
ended-given : (ending line : List ℕ) → eqb (slice_index line (length line - 1)) 10 ≡ false → ended ending line ≡ line ++ ending
ended-given ending line bare = rw bare refl

-- what a line is given stands behind it
pub ended-behind : (ending line : List ℕ) → (added : List ℕ) × (ended ending line ≡ line ++ added)
ended-behind ending line = elim (cases_Bool (eqb (slice_index line (length line - 1)) 10)) [
  | inl lf ↦ ([], ended-kept ending line lf ∙ sym (append-nil line))
  | inr bare ↦ (ending, ended-given ending line bare)
]

-- a line with an ending, its own or the one that it is given, stays a line
pub lines_of-given : (ending line rest : List ℕ) → lines_of line ≡ line ∷ [] → IsEnding ending
    → lines_of (ended ending line ++ rest) ≡ ended ending line ∷ lines_of rest
lines_of-given ending line rest one is = elim (cases_Bool (eqb (slice_index line (length line - 1)) 10)) [
  | inl lf ↦ rw (ended-kept ending line lf) (lines_of-ended line rest one lf)
  | inr bare ↦ rw (ended-given ending line bare, append_assoc) (lines_of-line line ending rest (line-bare line one bare) is)
]

-- a text without LF is a line with the ending that it is given
pub lines_of-text : (ending text : List ℕ) → list_any (λ b. eqb b 10) text ≡ false → IsEnding ending → lines_of (ended ending text) ≡ ended ending text ∷ []
unfolding lines_of
lines_of-text ending text none is =
    let line = lines_of-line text ending [] none is in
    rw (ended-given ending text (bare-last text none)) (rw append-nil at line)
