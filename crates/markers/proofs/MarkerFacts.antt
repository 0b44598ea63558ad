-- Facts on trees of markers.
use Rattle.std.proofs.Common.{◌≡◌, ℕ, zero, suc, ◌<◌, Bool, true, eqb, List, [], ◌∷◌, ◌++◌, length, get_or, refl, ap, inl, inr, arith}
use Rattle.std.proofs.Math.Bool.{or-true}
use Rattle.std.proofs.lemmas.Bool.{cases_Bool, eq-eqb, eqb-true}
use Rattle.std.specs.Cmp.{both_ways, first_so, second_so}
use Rattle.std.specs.Cmp.Derive.{both_true}
use Rattle.std.specs.Prelude.{◌↔◌}
use Rattle.std.specs.Str.Iter.{HasSubslice}
use Rattle.markers.specs.MarkerAtoms.{begins_with, contains}
use Rattle.markers.specs.MarkerTree.{Tree, trees_of}
use Rattle.markers.specs.Tied.MarkerSize.{tree_size, trees_size}

-- a member is smaller than the members
pub member_size : (ts : List Tree) (k : ℕ) (t : Tree) → k < length ts → t ≡ get_or ts k t → tree_size t < trees_size (trees_of ts)
member_size [] k t inside is = omega arith
member_size (u ∷ ts) zero t inside is = let same : t ≡ u = is in rw same (omega arith)
member_size (u ∷ ts) (suc k) t inside is =
    let below : k < length ts = omega arith in
    let more = member_size ts k t below is in
    omega arith

begins_with-append : (part rest : List ℕ) → begins_with (part ++ rest) part ≡ true
begins_with-append [] rest = refl
begins_with-append (c ∷ part) rest = both_true (eq-eqb c c refl) (begins_with-append part rest)

append-begins_with : (text part : List ℕ) → begins_with text part ≡ true → (rest : List ℕ) × (text ≡ part ++ rest)
append-begins_with text [] h = (text, refl)
append-begins_with [] (c ∷ part) h = absurd cc
append-begins_with (b ∷ text) (c ∷ part) h =
    let same = eqb-true b c (first_so (eqb b c) (begins_with text part) h) in
    let p = append-begins_with text part (second_so (eqb b c) (begins_with text part) h) in
    (p.0, let e = p.1 in cc)

contains-around : (front part rest : List ℕ) → contains (front ++ (part ++ rest)) part ≡ true
contains-around [] [] [] = refl
contains-around [] [] (b ∷ rest) = refl
contains-around [] (c ∷ part) rest = rw (begins_with-append (c ∷ part) rest) refl
contains-around (b ∷ front) part rest = rw (contains-around front part rest) (or-true (begins_with (b ∷ (front ++ (part ++ rest))) part))

subslice-contains : (text part : List ℕ) → contains text part ≡ true → HasSubslice text part
subslice-contains [] part h = let p = append-begins_with [] part h in ([], p.0, p.1)
subslice-contains (b ∷ text) part h = elim (cases_Bool (begins_with (b ∷ text) part)) [
  | inl here ↦ let p = append-begins_with (b ∷ text) part here in ([], p.0, p.1)
  | inr missing ↦
      let more : contains text part ≡ true = (rw missing at h) in
      let p = subslice-contains text part more in
      (b ∷ p.0, p.1, ap (λ (t : List ℕ). b ∷ t) p.2)
]

-- the search of std decides what the definition does
pub contains-decided : (r : Bool) (text part : List ℕ) → (r ≡ true) ↔ HasSubslice text part → r ≡ contains text part
contains-decided r text part tells =
    both_ways r (contains text part)
    (λ h. let p = tells.0 h in rw (p.2) (contains-around p.0 part p.1))
    (λ h. tells.1 (subslice-contains text part h))
