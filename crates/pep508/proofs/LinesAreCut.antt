-- Lines are what a text is cut into: joined, they are cut into the same lines.
use Rattle.std.proofs.Common.{◌≡◌, ℕ, suc, ◌-◌, ◌<◌, ◌∙◌, List, [], ◌∷◌, length, take, eqb, true, false, ap, sym, refl, subst, inl, inr, arith, append-nil}
use Rattle.std.proofs.lemmas.Bool.{cases_Bool}
use Rattle.std.specs.List.{AllByRecursion, concat, onto_first}
use Rattle.pep508.specs.Lines.{AreLines, ends_in_line_feed, has_line_feed, lines_of}
use Rattle.pep508.proofs.JoinedLines.{last_byte, lines_of-ended, onto_first-one}

-- joined and cut again they are these lines
abbrev pub AreCut : List (List ℕ) → Type 0
AreCut lines = lines_of (concat lines) ≡ lines

-- ---- one line

-- what is cut into itself alone has a byte, and an LF only at its end
one-some : (line : List ℕ) → lines_of line ≡ line ∷ [] → 0 < length line
unfolding lines_of
one-some [] one = cc one
one-some (b ∷ line) one = omega arith

front-more : (b c : ℕ) (line : List ℕ) → take (length (b ∷ c ∷ line) - 1) (b ∷ c ∷ line) ≡ b ∷ take (length (c ∷ line) - 1) (c ∷ line)
front-more b c line =
    let n : length (b ∷ c ∷ line) - 1 ≡ suc (length (c ∷ line) - 1) = omega arith in
    rw n refl

one-inside : (line : List ℕ) → lines_of line ≡ line ∷ [] → has_line_feed (take (length line - 1) line) ≡ false
unfolding lines_of
one-inside [] one = refl
one-inside (b ∷ []) one = refl
one-inside (b ∷ c ∷ line) one = elim (cases_Bool (eqb b 10)) [
  | inl lf ↦ cc (rw lf at one)
  | inr other ↦
      let shorter = onto_first-one b (lines_of (c ∷ line)) c line (rw other at one) in
      rw (front-more b c line, other) (one-inside (c ∷ line) shorter)
]

-- and the other way round
one-line : (line : List ℕ) → 0 < length line → has_line_feed (take (length line - 1) line) ≡ false → lines_of line ≡ line ∷ []
unfolding lines_of
one-line [] some inside = absurd (omega arith)
one-line (b ∷ []) some inside = elim (cases_Bool (eqb b 10)) [
  | inl lf ↦ rw lf refl
  | inr other ↦ rw other refl
]
one-line (b ∷ c ∷ line) some inside =
    let front : has_line_feed (b ∷ take (length (c ∷ line) - 1) (c ∷ line)) ≡ false = rw (front-more b c line) at inside in
    elim (cases_Bool (eqb b 10)) [
      | inl lf ↦ cc (rw lf at front)
      | inr other ↦ rw (other, one-line (c ∷ line) (omega arith) (rw other at front)) refl
    ]

-- ---- line by line

-- LF is the last byte where a line follows
abbrev pub Leads : List ℕ → List (List ℕ) → Type 0
Leads line [] = Unit {0}
Leads line (next ∷ rest) = ends_in_line_feed line ≡ true

-- each is one line, and each but the last ends in LF
abbrev pub AreOneByOne : List (List ℕ) → Type 0
AreOneByOne [] = Unit {0}
AreOneByOne (line ∷ rest) = (lines_of line ≡ line ∷ []) × Leads line rest × AreOneByOne rest

pub Leads-lf : (line : List ℕ) (rest : List (List ℕ)) → ends_in_line_feed line ≡ true → Leads line rest
Leads-lf line [] lf = tt
Leads-lf line (next ∷ rest) lf = lf

-- a byte before a line leaves its end
Leads-onto : (b : ℕ) (line : List ℕ) (rest : List (List ℕ)) → lines_of line ≡ line ∷ [] → Leads line rest → Leads (b ∷ line) rest
unfolding lines_of
Leads-onto b line [] one leads = tt
Leads-onto b [] (next ∷ rest) one leads = cc one
Leads-onto b (c ∷ line) (next ∷ rest) one leads = rw (last_byte b c line) leads

OneByOne-onto : (b : ℕ) (cut : List (List ℕ)) → eqb b 10 ≡ false → AreOneByOne cut → AreOneByOne (onto_first b cut)
unfolding lines_of
OneByOne-onto b [] other are = (rw other refl, tt, tt)
OneByOne-onto b (line ∷ rest) other are = (rw (other, are.0) refl, Leads-onto b line rest are.0 are.1, are.2)

OneByOne-lines_of : (text : List ℕ) → AreOneByOne (lines_of text)
unfolding lines_of
OneByOne-lines_of [] = tt
OneByOne-lines_of (b ∷ rest) = elim (cases_Bool (eqb b 10)) [
  | inl lf ↦
      let one : lines_of (b ∷ []) ≡ (b ∷ []) ∷ [] = rw lf refl in
      rw lf (one, Leads-lf (b ∷ []) (lines_of rest) lf, OneByOne-lines_of rest)
  | inr other ↦ rw other (OneByOne-onto b (lines_of rest) other (OneByOne-lines_of rest))
]

OneByOne-cut : (lines : List (List ℕ)) → AreCut lines → AreOneByOne lines
OneByOne-cut lines cut = subst AreOneByOne cut (OneByOne-lines_of (concat lines))

cut-OneByOne : (lines : List (List ℕ)) → AreOneByOne lines → AreCut lines
unfolding lines_of
cut-OneByOne [] are = refl
cut-OneByOne (line ∷ []) are = rw append-nil are.0
cut-OneByOne (line ∷ next ∷ rest) are =
    lines_of-ended line (concat (next ∷ rest)) are.0 are.1 ∙ ap (λ (ls : List (List ℕ)). line ∷ ls) (cut-OneByOne (next ∷ rest) are.2)

-- ---- the rule

leading-more : (line next : List ℕ) (rest : List (List ℕ))
    → take (length (line ∷ next ∷ rest) - 1) (line ∷ next ∷ rest) ≡ line ∷ take (length (next ∷ rest) - 1) (next ∷ rest)
leading-more line next rest =
    let n : length (line ∷ next ∷ rest) - 1 ≡ suc (length (next ∷ rest) - 1) = omega arith in
    rw n refl

pub OneByOne-from : (lines : List (List ℕ)) → AreLines lines → AreOneByOne lines
OneByOne-from [] are = tt
OneByOne-from (line ∷ []) are = (one-line line are.some.0 are.inside.0, tt, tt)
OneByOne-from (line ∷ next ∷ rest) are =
    let ended : AllByRecursion (λ l. ends_in_line_feed l ≡ true) (line ∷ take (length (next ∷ rest) - 1) (next ∷ rest)) = rw (leading-more line next rest) at are.ended in (
      one-line line are.some.0 are.inside.0,
      ended.0,
      OneByOne-from (next ∷ rest) (record { some = are.some.1; inside = are.inside.1; ended = ended.1 }),
    )

pub AreLines-from : (lines : List (List ℕ)) → AreOneByOne lines → AreLines lines
AreLines-from [] are = record { some = tt; inside = tt; ended = tt }
AreLines-from (line ∷ []) are = record { some = (one-some line are.0, tt); inside = (one-inside line are.0, tt); ended = tt }
AreLines-from (line ∷ next ∷ rest) are =
    let behind = AreLines-from (next ∷ rest) are.2 in
    record {
      some = (one-some line are.0, behind.some);
      inside = (one-inside line are.0, behind.inside);
      ended = rw (leading-more line next rest) (are.1, behind.ended);
    }

pub AreLines-cut : (lines : List (List ℕ)) → AreCut lines → AreLines lines
AreLines-cut lines cut = AreLines-from lines (OneByOne-cut lines cut)

pub cut-AreLines : (lines : List (List ℕ)) → AreLines lines → AreCut lines
cut-AreLines lines are = cut-OneByOne lines (OneByOne-from lines are)

-- the lines of a text are lines
pub AreLines-lines_of : (text : List ℕ) → AreLines (lines_of text)
AreLines-lines_of text = AreLines-from (lines_of text) (OneByOne-lines_of text)

-- lines that join to a text are its lines
pub one-list : (text : List ℕ) (lines : List (List ℕ)) → AreLines lines → concat lines ≡ text → lines ≡ lines_of text
one-list text lines are joined = sym (cut-AreLines lines are) ∙ ap lines_of joined
