-- A line that is added.
use Rattle.std.proofs.Common.{◌≡◌, ℕ, ◌-◌, List, [], ◌∷◌, ◌++◌, append_assoc, eqb, false, inl, inr, length, refl, ap, slice_index}
use Rattle.std.proofs.lemmas.Bool.{cases_Bool}
use Rattle.std.specs.List.{list_any}
use Rattle.pep508.specs.Lines.{AreLines}
use Rattle.pep508.specs.Parts.{IsEnding, ended}
use Rattle.edits.specs.Addition.{last_ended, with_line, usual_ending}

-- the last line alone gets the ending
pub last_ended-push : (ending : List ℕ) (lines : List (List ℕ)) (line : List ℕ) → last_ended ending (lines ++ line ∷ []) ≡ lines ++ ended ending line ∷ []
last_ended-push ending [] line = refl
last_ended-push ending (first ∷ []) line = refl
last_ended-push ending (first ∷ second ∷ rest) line = ap (λ (l : List (List ℕ)). first ∷ l) (last_ended-push ending (second ∷ rest) line)

-- the usual ending is one
IsEnding-usual : (lines : List (List ℕ)) → IsEnding (usual_ending lines)
IsEnding-usual [] = inl refl
IsEnding-usual (line ∷ rest) = elim (cases_Bool (eqb (slice_index line (length line - 1)) 10)) [
  | inr bare ↦ rw bare (IsEnding-usual rest)
  | inl lf ↦ elim (cases_Bool (eqb (slice_index line (length line - 2)) 13)) [
    | inl cr ↦ rw (lf, cr) (inr refl)
    | inr other ↦ rw (lf, other) (inl refl)
  ]
]

-- a line may be the first, with an ending, and one more may stand behind lines whose last one gets an ending
abbrev pub MayBeFirst : Type 0
MayBeFirst = (line ending : List ℕ) → list_any (λ b. eqb b 10) line ≡ false → IsEnding ending → AreLines (ended ending line ∷ [])

abbrev pub MayBeNext : Type 0
MayBeNext = (lines : List (List ℕ)) (last line ending : List ℕ) → AreLines (lines ++ last ∷ []) → list_any (λ b. eqb b 10) line ≡ false
    → IsEnding ending → AreLines (lines ++ ended ending last ∷ ended ending line ∷ [])

-- lines have a last one, with those in front of it
front_and_last : (line : List ℕ) (rest : List (List ℕ)) → (front : List (List ℕ)) × ((last : List ℕ) × (line ∷ rest ≡ front ++ last ∷ []))
front_and_last line [] = ([], (line, refl))
front_and_last line (next ∷ rest) =
    let more = front_and_last next rest in
    (line ∷ more.0, (more.1.0, ap (λ (l : List (List ℕ)). line ∷ l) more.1.1))

-- lines that have a last one stay lines with one more
AreLines-behind : MayBeNext → (lines front : List (List ℕ)) (last line ending : List ℕ) → lines ≡ front ++ last ∷ [] → AreLines lines
    → list_any (λ b. eqb b 10) line ≡ false → IsEnding ending → AreLines (last_ended ending lines ++ ended ending line ∷ [])
AreLines-behind next lines front last line ending e are none is =
    let grown = next front last line ending (rw e at are) none is in
    rw (e, last_ended-push ending front last, append_assoc front (ended ending last ∷ []) (ended ending line ∷ [])) grown

-- lines stay lines with one more
pub AreLines-after : MayBeFirst → MayBeNext → (lines : List (List ℕ)) (line : List ℕ) → AreLines lines → list_any (λ b. eqb b 10) line ≡ false
    → AreLines (with_line lines line)
AreLines-after first next [] line are none = first line (10 ∷ []) none (inl refl)
AreLines-after first next (old ∷ rest) line are none =
    let cut = front_and_last old rest in
    AreLines-behind next (old ∷ rest) cut.0 cut.1.0 line (usual_ending (old ∷ rest)) cut.1.1 are none (IsEnding-usual (old ∷ rest))
