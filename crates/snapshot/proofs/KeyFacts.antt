-- The place of a key among others, looked for by a loop.
use Rattle.std.proofs.Common.{◌≡◌, ℕ, suc, ◌+◌, ◌<◌, ◌≤◌, true, false, List, length, get_or, drop, map, Option, Some, None, option_map, refl, sym, ap, ◌∙◌, add-one, arith, bytes_eq}
use Rattle.std.proofs.Math.Seq.{drop-cons}
use Rattle.std.proofs.Math.ListN.{drop_of_length-le}
use Rattle.snapshot.specs.Tied.Keys.{place_of}

-- the place of a key behind others
abbrev pub behind : ℕ → Option ℕ → Option ℕ
behind i found = option_map (λ n. i + n) found

pub behind-none : (found : Option ℕ) → behind 0 found ≡ found
behind-none (Some n) = ap Some (omega arith)
behind-none None = refl

behind-one : (i : ℕ) (found : Option ℕ) → behind i (option_map suc found) ≡ behind (suc i) found
behind-one i (Some n) = ap Some (omega arith)
behind-one i None = refl

module _ {X : Type 0} (now : X → List ℕ) (ks : List X) (key : List ℕ) (i : ℕ) where
  -- where it is among the keys from a place on
  abbrev pub from : Option ℕ
  from = behind i (place_of key (map now (drop i ks)))

  pub is_here : (d : X) (total : Option ℕ) → i < length ks → bytes_eq (now (get_or ks i d)) key ≡ true → from ≡ total → Some i ≡ total
  is_here d total lt same before =
      let here : from ≡ Some (i + 0) = rw (drop-cons ks i d lt, same) refl in
      ap Some (omega arith) ∙ sym here ∙ before

  pub is_past : (total : Option ℕ) → length ks ≤ i → from ≡ total → None ≡ total
  is_past total le before =
      let none : from ≡ None = rw (drop_of_length-le ks le) refl in
      sym none ∙ before

pub is_later : {X : Type 0} (now : X → List ℕ) (ks : List X) (key : List ℕ) (i : ℕ) (d : X) (total : Option ℕ) → i < length ks → bytes_eq (now (get_or ks i d)) key ≡ false → from now ks key i ≡ total → from now ks key (i + 1) ≡ total
is_later now ks key i d total lt other before =
    let later : from now ks key i ≡ behind i (option_map suc (place_of key (map now (drop (suc i) ks)))) = rw (drop-cons ks i d lt, other) refl in
    rw add-one (sym (behind-one i _) ∙ sym later ∙ before)
