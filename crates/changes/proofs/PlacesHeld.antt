-- Places that are held as at most so much, and what tests of them say.
use Rattle.std.proofs.Common.{◌≡◌, ◌+◌, ◌-◌, ◌^◌, ◌≤◌, ◌<◌, ◌&&◌, ℕ, true, Some, None, inl, inr, arith, if◌then◌else◌}
use Rattle.std.proofs.Math.Nat.{min-eq_left, min-eq_right, min-le_left, min-le_right}
use Rattle.std.proofs.lemmas.Bool.{cases_Bool}
use Rattle.std.proofs.lemmas.Bool.Decides.{nat_tests}
use Rattle.std.specs.Prelude.{min, nat_lt}

-- a place, as it is held
pub record IsHeldAt (held place : ℕ) : Type 0 where
  pub within : held ≤ place
  pub below : held < 2 ^ 64
  pub whole : place < 2 ^ 64 → held ≡ place
  pub most : 2 ^ 64 ≤ place → held + 1 ≡ 2 ^ 64

pub IsHeldAt-min : (place : ℕ) → IsHeldAt (min place (2 ^ 64 - 1)) place
IsHeldAt-min place = record {
  within = min-le_left place (2 ^ 64 - 1);
  below = let m = min-le_right place (2 ^ 64 - 1) in omega arith;
  whole = λ h. min-eq_left (let k : place ≤ 2 ^ 64 - 1 = omega arith in k);
  most = λ h. let k : 2 ^ 64 - 1 ≤ place = omega arith in let e = min-eq_right k in omega arith;
}

-- a place that is held below the most is held whole
pub held-whole : (held place : ℕ) → IsHeldAt held place → held + 1 < 2 ^ 64 → held ≡ place
held-whole held place is below = elim (cases_Bool (nat_lt place (2 ^ 64))) [
  | inl fits ↦ is.whole (let h = fits in grind (arith, nat_tests))
  | inr over ↦ absurd (let most = is.most (let h = over in grind (arith, nat_tests)) in omega arith)
]

-- what the tests behind a splice say
pub may_go : (a b c d : ℕ) (place : ℕ) → (if nat_lt a b && nat_lt c d then Some c else None) ≡ Some place → (a < b) × (c < d) × (c ≡ place)
may_go a b c d place e = elim (cases_Bool (nat_lt a b)) [
  | inl above ↦ elim (cases_Bool (nat_lt c d)) [
    | inl fits ↦ ((let h = above in grind (arith, nat_tests)), (let h = fits in grind (arith, nat_tests)), cc (rw (above, fits) at e))
    | inr over ↦ cc (rw (above, over) at e)
  ]
  | inr below ↦ cc (rw below at e)
]

pub may_not : (a b c d : ℕ) → (if nat_lt a b && nat_lt c d then Some c else None) ≡ None → a < b → c < d → ⊥
may_not a b c d e above fits =
    let first : nat_lt a b ≡ true = grind (arith, nat_tests) in
    let second : nat_lt c d ≡ true = grind (arith, nat_tests) in
    cc (rw (first, second) at e)
