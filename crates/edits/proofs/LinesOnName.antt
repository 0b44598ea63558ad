-- The refusals of an edit of the one line on a name.
use Rattle.std.proofs.Common.{◌≡◌, ◌≢◌, inl, inr, ℕ, Bool, true, false, List, Some, Ok, Err, refl, sym, ap, if◌then◌else◌, eqb}
use Rattle.std.proofs.lemmas.Bool.{cases_Bool, eqb-true}
use Rattle.markers.specs.Names.{is_name, normal_of}
use Rattle.edits.specs.LinesOnName.{count_on}
use Rattle.edits.specs.Refused.{refused_count, refused_name}
use Rattle.states.specs.declared.refusal.Refusal.TheVariants.{Ambiguous, BadText}

-- a text that was read as a name is one
named : (b : Bool) (normal name : List ℕ) → (if b then Ok normal else Err BadText) ≡ Ok name → (b ≡ true) × (normal ≡ name)
named true normal name e = (refl, cc)
named false normal name e = cc

-- what is refused where so many lines are on the name
pub refused-at : (lines : List (List ℕ)) (text name : List ℕ) (n : ℕ) → (if is_name text then Ok (normal_of text) else Err BadText) ≡ Ok name → n ≡ count_on name lines
    → (refused_name lines text ≡ refused_count n) × (normal_of text ≡ name)
refused-at lines text name n read counted =
    let k = named (is_name text) (normal_of text) name read in
    (rw (k.0, k.1) (ap refused_count (sym counted)), k.1)

pub refused-many : (n : ℕ) → n ≢ 0 → n ≢ 1 → refused_count n ≡ Some (Ambiguous n)
refused-many n some more = elim (cases_Bool (eqb n 0)) [
  | inl none ↦ absurd (some (eqb-true n 0 none))
  | inr other ↦ elim (cases_Bool (eqb n 1)) [
    | inl one ↦ absurd (more (eqb-true n 1 one))
    | inr many ↦ rw (other, many) refl
  ]
]
