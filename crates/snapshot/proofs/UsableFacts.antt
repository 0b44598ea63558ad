-- Reading requirements one after the other, as a loop does.
use Rattle.std.proofs.Common.{◌≡◌, ℕ, suc, ◌+◌, ◌<◌, ◌≤◌, List, [], ◌∷◌, ◌++◌, length, get_or, drop, Result, Ok, Err, refl, sym, ap, ◌∙◌, append_assoc, add-one}
use Rattle.std.proofs.lemmas.List.{append-nil}
use Rattle.std.proofs.Math.Seq.{drop-cons}
use Rattle.std.proofs.Math.ListN.{drop_of_length-le}
use Rattle.pep508.specs.Requirement.{RequirementParts, requirement_text}
use Rattle.snapshot.specs.Releases.{required_at, requirements_from}
use Rattle.snapshot.specs.Shape.{◌>>=◌}
use Rattle.snapshot.specs.declared.skipped.SkipCause.{SkipCause}

-- what was read so far before what the rest gives
abbrev pub with_front : List RequirementParts → Result (List RequirementParts) SkipCause → Result (List RequirementParts) SkipCause
with_front front read = read >>= λ others. Ok (front ++ others)

pub front-none : (read : Result (List RequirementParts) SkipCause) → with_front [] read ≡ read
front-none (Ok xs) = refl
front-none (Err e) = refl

front-first : (front : List RequirementParts) (x : RequirementParts) (read : Result (List RequirementParts) SkipCause) → with_front front (read >>= λ others. Ok (x ∷ others)) ≡ with_front (front ++ x ∷ []) read
front-first front x (Ok xs) = ap Ok (sym (append_assoc front (x ∷ []) xs))
front-first front x (Err e) = refl

-- the texts from a place on: the one there, and the others
from-drop : (ts : List (List ℕ)) (i : ℕ) (d : List ℕ) → i < length ts
    → requirements_from i (drop i ts) ≡ (required_at i (requirement_text (get_or ts i d)) >>= λ first. requirements_from (suc i) (drop (suc i) ts) >>= λ others. Ok (first ∷ others))
unfolding requirements_from
from-drop ts i d lt = rw (drop-cons ts i d lt) refl

-- the text at the place is a requirement
pub text_read : (ts : List (List ℕ)) (i : ℕ) (d : List ℕ) (front : List RequirementParts) (x : RequirementParts) (total : Result (List RequirementParts) SkipCause) → i < length ts → required_at i (requirement_text (get_or ts i d)) ≡ Ok x
    → with_front front (requirements_from i (drop i ts)) ≡ total → with_front (front ++ x ∷ []) (requirements_from (i + 1) (drop (i + 1) ts)) ≡ total
text_read ts i d front x total lt h before =
    let first : with_front front (requirements_from i (drop i ts)) ≡ with_front (front ++ x ∷ []) (requirements_from (suc i) (drop (suc i) ts)) =
    rw (from-drop ts i d lt, h) (front-first front x (requirements_from (suc i) (drop (suc i) ts))) in
    rw add-one (sym first ∙ before)

-- the text at the place is refused
pub text_refused : (ts : List (List ℕ)) (i : ℕ) (d : List ℕ) (front : List RequirementParts) (e : SkipCause) (total : Result (List RequirementParts) SkipCause) → i < length ts
    → required_at i (requirement_text (get_or ts i d)) ≡ Err e → with_front front (requirements_from i (drop i ts)) ≡ total → total ≡ Err e
text_refused ts i d front e total lt h before =
    let first : with_front front (requirements_from i (drop i ts)) ≡ Err e = rw (from-drop ts i d lt, h) refl in
    sym before ∙ first

-- past the last text all are read
pub texts_read : (ts : List (List ℕ)) (i : ℕ) (front : List RequirementParts) (total : Result (List RequirementParts) SkipCause) → length ts ≤ i
    → with_front front (requirements_from i (drop i ts)) ≡ total → total ≡ Ok front
unfolding requirements_from
texts_read ts i front total le before =
    let none : with_front front (requirements_from i (drop i ts)) ≡ Ok front = rw (drop_of_length-le ts le) (ap Ok (append-nil front)) in
    sym before ∙ none
