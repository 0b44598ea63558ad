-- Lines one by one: some are left out, or exchanged for others that end alike.
use Rattle.std.proofs.Common.{◌≡◌, ℕ, zero, suc, arith, ◌-◌, ◌∙◌, ◌⊎◌, Bool, List, [], ◌∷◌, ◌++◌, length, eqb, slice_index, true, false, ap, sym, refl, subst, inl, inr, append-nil, map, filter, Contains, Some, Ok}
use Rattle.std.proofs.lemmas.Bool.{cases_Bool, eqb-true}
use Rattle.std.specs.List.{list_any}
use Rattle.pep508.specs.Lines.{AreLines, lines_of}
use Rattle.pep508.specs.Parts.{IsEnding, comment_place, content_of, ending_of, has_odd, is_odd}
use Rattle.pep508.specs.Requirement.{MayStandFor, RequirementParts, requirement_of, wanted_by}
use Rattle.pep508.proofs.Endings.{wanted_by-plain}
use Rattle.pep508.proofs.JoinedLines.{lines_of-line}
use Rattle.pep508.proofs.LineCut.{line_parts}
use Rattle.pep508.proofs.LinesAreCut.{AreLines-from, AreOneByOne, Leads, Leads-lf, OneByOne-from}
use Rattle.pep508.proofs.OddFacts.{ending_cases}
use Rattle.pep508.proofs.Slicewise.{line_asks}

-- LF is the last byte
abbrev EndsInLf : List ℕ → Type 0
EndsInLf line = eqb (slice_index line (length line - 1)) 10 ≡ true

-- ---- left out

Leads-filter : (keeps : List ℕ → Bool) (line : List ℕ) (rest : List (List ℕ)) → Leads line rest → Leads line (filter keeps rest)
Leads-filter keeps line [] leads = tt
Leads-filter keeps line (next ∷ rest) leads = Leads-lf line (filter keeps (next ∷ rest)) leads

OneByOne-filter : (keeps : List ℕ → Bool) (lines : List (List ℕ)) → AreOneByOne lines → AreOneByOne (filter keeps lines)
OneByOne-filter keeps [] are = tt
OneByOne-filter keeps (line ∷ rest) are = elim (cases_Bool (keeps line)) [
  | inl kept ↦ rw kept (are.0, Leads-filter keeps line rest are.1, OneByOne-filter keeps rest are.2)
  | inr out ↦ rw out (OneByOne-filter keeps rest are.2)
]

pub AreLines-filter : (keeps : List ℕ → Bool) (lines : List (List ℕ)) → AreLines lines → AreLines (filter keeps lines)
AreLines-filter keeps lines are = AreLines-from (filter keeps lines) (OneByOne-filter keeps lines (OneByOne-from lines are))

-- ---- exchanged

-- LF is no odd character's absence: a text without odd characters has none
no_lf : (text : List ℕ) → has_odd text ≡ false → list_any (λ b. eqb b 10) text ≡ false
unfolding has_odd
no_lf [] plain = refl
no_lf (b ∷ rest) plain = elim (cases_Bool (eqb b 10)) [
  | inl lf ↦ cc (rw (eqb-true b 10 lf) at plain)
  | inr other ↦ elim (cases_Bool (is_odd b rest)) [
    | inl odd ↦ cc (rw odd at plain)
    | inr even ↦ rw other (no_lf rest (rw even at plain))
  ]
]

-- a text without LF is one line
one-bare : (b : ℕ) (text : List ℕ) → list_any (λ c. eqb c 10) (b ∷ text) ≡ false → lines_of (b ∷ text) ≡ (b ∷ text) ∷ []
unfolding lines_of
one-bare b [] none = elim (cases_Bool (eqb b 10)) [
  | inl lf ↦ cc (rw lf at none)
  | inr other ↦ rw other refl
]
one-bare b (c ∷ text) none = elim (cases_Bool (eqb b 10)) [
  | inl lf ↦ cc (rw lf at none)
  | inr other ↦ rw (other, one-bare c text (rw other at none)) refl
]

-- what has no bytes asks for nothing
nothing : (wanted : RequirementParts) → requirement_of [] ≡ Ok (Some wanted) → ⊥
unfolding requirement_of wanted_by has_odd comment_place
nothing wanted reads = cc reads

one-with : (line content ending : List ℕ) (wanted : RequirementParts) → content ++ ending ≡ line → list_any (λ b. eqb b 10) content ≡ false
    → (ending ≡ []) ⊎ IsEnding ending → requirement_of line ≡ Ok (Some wanted) → lines_of line ≡ line ∷ []
unfolding lines_of
one-with line content ending wanted joins none (inr is) reads =
    let one = lines_of-line content ending [] none is in
    rw (← joins) (rw append-nil at one)
one-with line [] ending wanted joins none (inl bare) reads =
    absurd (nothing wanted (rw (sym joins ∙ bare) at reads))
one-with line (b ∷ content) ending wanted joins none (inl bare) reads =
    let same : b ∷ content ≡ line = sym (append-nil (b ∷ content)) ∙ ap (λ (e : List ℕ). (b ∷ content) ++ e) (sym bare) ∙ joins in
    subst (λ (l : List ℕ). lines_of l ≡ l ∷ []) same (one-bare b content none)

-- what asks for something is one line
one-requirement : (line : List ℕ) (wanted : RequirementParts) → requirement_of line ≡ Ok (Some wanted) → lines_of line ≡ line ∷ []
one-requirement line wanted reads =
    let plain = wanted_by-plain (content_of line) (Some wanted) (sym (line_asks line) ∙ reads) in
    one-with line (content_of line) (ending_of line) wanted (line_parts line) (no_lf (content_of line) plain) (ending_cases line) reads

-- LF is the last byte where there is an ending
lf-ending : (line : List ℕ) → EndsInLf line → ending_of line ≡ [] → ⊥
lf-ending line lf none = elim (cases_Bool (eqb (slice_index line (length line - 2)) 13)) [
  | inl cr ↦ cc (rw (lf, cr) at none)
  | inr other ↦ cc (rw (lf, other) at none)
]

ending-lf : (line : List ℕ) → (ending_of line ≡ [] → ⊥) → EndsInLf line
ending-lf line some = elim (cases_Bool (eqb (slice_index line (length line - 1)) 10)) [
  | inl lf ↦ lf
  | inr other ↦ absurd (some (rw other refl))
]

Leads-map : (change : List ℕ → List ℕ) (old new : List ℕ) (rest : List (List ℕ)) → (EndsInLf old → EndsInLf new) → Leads old rest → Leads new (map change rest)
Leads-map change old new [] ends leads = tt
Leads-map change old new (next ∷ rest) ends leads = ends leads

-- how a line stands that stays or is exchanged
record Stays (old new : List ℕ) : Type 0 where
  one : lines_of new ≡ new ∷ []
  ends : EndsInLf old → EndsInLf new

stays : (old new : List ℕ) → lines_of old ≡ old ∷ [] → (new ≡ old) ⊎ MayStandFor old new → Stays old new
stays old new one (inl same) = record { one = subst (λ (l : List ℕ). lines_of l ≡ l ∷ []) (sym same) one; ends = λ lf. subst EndsInLf (sym same) lf }
stays old new one (inr other) = record {
  one = one-requirement new other.wanted other.reads;
  ends = λ lf. ending-lf new (λ none. lf-ending old lf (sym other.end ∙ none));
}

OneByOne-map : (change : List ℕ → List ℕ) (lines : List (List ℕ)) → AreOneByOne lines
    → ((line : List ℕ) → Contains lines line → (change line ≡ line) ⊎ MayStandFor line (change line)) → AreOneByOne (map change lines)
OneByOne-map change [] are each = tt
OneByOne-map change (line ∷ rest) are each =
    let here = stays line (change line) are.0 (each line (zero, omega arith, refl)) in
    (here.one, Leads-map change line (change line) rest here.ends are.1, OneByOne-map change rest are.2 (λ l there. each l (suc there.0, omega arith, there.2)))

pub AreLines-map : (change : List ℕ → List ℕ) (lines : List (List ℕ)) → AreLines lines
    → ((line : List ℕ) → Contains lines line → (change line ≡ line) ⊎ MayStandFor line (change line)) → AreLines (map change lines)
AreLines-map change lines are each = AreLines-from (map change lines) (OneByOne-map change lines (OneByOne-from lines are) each)
