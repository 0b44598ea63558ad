-- Releases of a table are told apart by their places.
use Rattle.std.proofs.Common.{ℕ, ◌≡◌, refl, ap, subst, arith, Bool, true, false, nat_eq}
use Rattle.std.proofs.lemmas.Bool.{eqb-true}
use Rattle.search.specs.Conflicts.{IsVersionEquality}
use Rattle.search.specs.Rules.{Rules}
use Rattle.search.specs.Table.{places_eq}

pub eq-itself : (n : ℕ) → nat_eq n n ≡ true
eq-itself n = grind (arith, nat_eq)

pub off-of : (b : Bool) → (b ≡ true → ⊥) → b ≡ false
off-of true h = absurd (h refl)
off-of false h = refl

pub places-equality : (rules : Rules ℕ ℕ ℕ ℕ) → IsVersionEquality rules places_eq
places-equality rules = record {
  back = λ v w e. subst (λ x. nat_eq x v ≡ true) (eqb-true v w e) (eq-itself v);
  onward = λ u v w e f. subst (λ x. nat_eq u x ≡ true) (eqb-true v w f) e;
  admits = λ r v w e. ap (rules.admits r) (eqb-true v w e);
  wants = λ node v w e. ap (rules.wants node) (eqb-true v w e);
}
