-- Local parts that are read one after the other.
use Rattle.std.proofs.Common.{◌≡◌, ℕ, ◌<◌, Bool, true, false, ◌&&◌, List, [], ◌∷◌, ◌++◌, length, Ok, Err, refl, sym, ap, ◌∙◌, inl, inr, append_assoc}
use Rattle.std.specs.List.{list_all}
use Rattle.std.proofs.lemmas.Bool.{cases_Bool}
use Rattle.pep440.specs.declared.fault.Fault.{Fault}
use Rattle.pep440.specs.declared.fault.Fault.TheVariants.{ArbitraryEquality, BadClause, BadVersion, NumberTooLarge, OutOfMemory}
use Rattle.pep440.specs.declared.parts.LocalPart.{LocalPart}
use Rattle.pep440.specs.Answers.{Fails}
use Rattle.pep440.specs.Tied.Reading.{is_local_from, locals_from, locals_of, part_of}
use Rattle.pep440.specs.Tied.Views.{fitting_locals, fitting_part, is_local, part_fits}
use Rattle.pep440.proofs.SpansRead.{local-nonempty, locals_of-some}

-- ---- local parts one after the other

abbrev all_fit : List LocalPart → Bool
all_fit ps = list_all part_fits ps

and-false : (b : Bool) → (b && false) ≡ false
and-false true = refl
and-false false = refl

and-group : (a b c : Bool) → (a && (b && c)) ≡ ((a && b) && c)
and-group true b c = refl
and-group false b c = refl

all_fit-append : (ps qs : List LocalPart) → all_fit (ps ++ qs) ≡ (all_fit ps && all_fit qs)
all_fit-append [] qs = refl
all_fit-append (p ∷ ps) qs = rw (all_fit-append ps qs) (and-group (part_fits p) (all_fit ps) (all_fit qs))

fitting-part : (p q : LocalPart) → fitting_part p ≡ Ok q → (p ≡ q) × (part_fits p ≡ true)
fitting-part p q h = elim (cases_Bool (part_fits p)) [
  | inl good ↦ (let g = (rw good at h) in cc, good)
  | inr bad ↦ absurd (let g = (rw bad at h) in cc)
]

fitting-part-err : (p : LocalPart) (e : Fault) → fitting_part p ≡ Err e → (part_fits p ≡ false) × (e ≡ NumberTooLarge)
fitting-part-err p e h = elim (cases_Bool (part_fits p)) [
  | inl good ↦ absurd (let g = (rw good at h) in cc)
  | inr bad ↦ (bad, let g = (rw bad at h) in cc)
]

-- what is known while local parts are read
pub record PartsSoFar (front : List LocalPart) (rest : List ℕ) (whole : List LocalPart) : Type 0 where
  pub all : front ++ locals_from [] rest ≡ whole
  pub fit : list_all part_fits front ≡ true
  pub lawful : is_local_from false rest ≡ true

-- a part that ends at a separator
pub parts-more : (front : List LocalPart) (rest piece behind : List ℕ) (whole : List LocalPart) (p : LocalPart) → PartsSoFar front rest whole
    → locals_from [] rest ≡ part_of piece ∷ locals_from [] behind → is_local_from false behind ≡ true → fitting_part (part_of piece) ≡ Ok p → PartsSoFar (front ++ p ∷ []) behind whole
parts-more front rest piece behind whole p so_far cut lawful read =
    let f = fitting-part (part_of piece) p read in
    record {
      all = append_assoc front (p ∷ []) (locals_from [] behind) ∙ ap (λ t. front ++ t) (ap (λ q. q ∷ locals_from [] behind) (sym f.0) ∙ sym cut) ∙ so_far.all;
      fit = all_fit-append front (p ∷ []) ∙ rw (so_far.fit, ← f.0, f.1) refl;
      lawful = lawful;
    }

-- the last part
pub parts-end : (front : List LocalPart) (rest : List ℕ) (whole : List LocalPart) (p : LocalPart) → PartsSoFar front rest whole
    → locals_from [] rest ≡ part_of rest ∷ [] → fitting_part (part_of rest) ≡ Ok p → fitting_locals whole ≡ Ok (front ++ p ∷ [])
parts-end front rest whole p so_far one read =
    let f = fitting-part (part_of rest) p read in
    let all : front ++ p ∷ [] ≡ whole = ap (λ t. front ++ t) (ap (λ q. q ∷ []) (sym f.0) ∙ sym one) ∙ so_far.all in
    let fine : all_fit whole ≡ true = ap all_fit (sym all) ∙ all_fit-append front (p ∷ []) ∙ rw (so_far.fit, ← f.0, f.1) refl in
    rw fine (ap Ok (sym all))

parts-large : (front : List LocalPart) (rest piece : List ℕ) (behind whole : List LocalPart) → PartsSoFar front rest whole
    → locals_from [] rest ≡ part_of piece ∷ behind → part_fits (part_of piece) ≡ false → fitting_locals whole ≡ Err NumberTooLarge
parts-large front rest piece behind whole so_far cut bad =
    let none : all_fit whole ≡ false = ap all_fit (sym so_far.all) ∙ all_fit-append front (locals_from [] rest) ∙ rw (cut, bad) (and-false (all_fit front)) in
    rw none refl

-- a part whose number is too large
pub parts-fault : (e : Fault) (front : List LocalPart) (rest piece : List ℕ) (behind whole : List LocalPart) → PartsSoFar front rest whole
    → locals_from [] rest ≡ part_of piece ∷ behind → Fails e (fitting_part (part_of piece)) → Fails e (fitting_locals whole)
parts-fault OutOfMemory front rest piece behind whole so_far cut f = tt
parts-fault NumberTooLarge front rest piece behind whole so_far cut f = parts-large front rest piece behind whole so_far cut (fitting-part-err (part_of piece) NumberTooLarge f).0
parts-fault BadVersion front rest piece behind whole so_far cut f = let e = (fitting-part-err (part_of piece) BadVersion f).1 in cc
parts-fault (BadClause k) front rest piece behind whole so_far cut f = let e = (fitting-part-err (part_of piece) (BadClause k) f).1 in cc
parts-fault ArbitraryEquality front rest piece behind whole so_far cut f = let e = (fitting-part-err (part_of piece) ArbitraryEquality f).1 in cc

pub parts-start : (text : List ℕ) → is_local text ≡ true → 0 < length text → PartsSoFar [] text (locals_of text)
parts-start text h some = record { all = sym (locals_of-some text some); fit = refl; lawful = local-nonempty text h some }
