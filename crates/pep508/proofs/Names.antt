-- Reading names one by one.
use Rattle.std.proofs.Common.{◌≡◌, ℕ, ◌+◌, ◌<◌, ◌∙◌, List, [], ◌∷◌, ◌++◌, length, get_or, drop, Result, Ok, Err, refl, ap, sym, append_assoc}
use Rattle.std.proofs.lemmas.List.{at_drop_more}
use Rattle.markers.specs.Names.{name_of}
use Rattle.markers.specs.declared.fault.Cause.{Cause}
use Rattle.pep508.specs.Parts.{trim}
use Rattle.pep508.specs.Requirement.{◌>>=◌, names_of}

-- names that were read, and then others
abbrev pub behind : List (List ℕ) → Result (List (List ℕ)) Cause → Result (List (List ℕ)) Cause
behind before (Ok names) = Ok (before ++ names)
behind before (Err cause) = Err cause

-- a name before others that are read
behind-one : (before : List (List ℕ)) (name : List ℕ) (read : Result (List (List ℕ)) Cause)
    → behind (before ++ name ∷ []) read ≡ behind before (read >>= λ names. Ok (name ∷ names))
behind-one before name (Ok names) = ap (λ (l : List (List ℕ)). Ok l) (append_assoc before (name ∷ []) names)
behind-one before name (Err cause) = refl

-- one more name is read
pub names_of-more : (before pieces : List (List ℕ)) (i : ℕ) (piece name : List ℕ) → i < length pieces → piece ≡ get_or pieces i piece → name_of (trim piece) ≡ Ok name
    → behind (before ++ name ∷ []) (names_of (drop (i + 1) pieces)) ≡ behind before (names_of (drop i pieces))
unfolding names_of
names_of-more before pieces i piece name within is read =
    let more = at_drop_more names_of pieces i piece within in
    behind-one before name (names_of (drop (i + 1) pieces)) ∙ ap (behind before) (sym (more ∙ rw (← is, read) refl))

-- a piece that is no name is the fault of all
pub names_of-fault : (before pieces : List (List ℕ)) (i : ℕ) (piece : List ℕ) (cause : Cause) → i < length pieces → piece ≡ get_or pieces i piece → name_of (trim piece) ≡ Err cause
    → behind before (names_of (drop i pieces)) ≡ Err cause
unfolding names_of
names_of-fault before pieces i piece cause within is read =
    let more = at_drop_more names_of pieces i piece within in
    rw (more, ← is, read) refl
