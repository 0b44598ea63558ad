-- Bounds on lists without repeats.
use Rattle.std.proofs.Common.{ℕ, zero, suc, List, [], ◌∷◌, ◌++◌, ◌≡◌, ◌<◌, ◌≤◌, ◌⊎◌, inl, inr, Contains, length, refl, sym, ◌∙◌, ap, subst, arith}
use Rattle.lists.proofs.Members.{Contains-here, Contains-there, Contains-cons_cases, Contains-nil, nat_cases}
use Rattle.search.specs.Tied.Nodes.{Distinct}

Distinct-not_last : {X : Type 0} (xs : List X) (y x : X) → (Contains xs x → ⊥) → (y ≡ x → ⊥) → Contains (xs ++ y ∷ []) x → ⊥
Distinct-not_last [] y x a b k = elim (Contains-cons_cases y [] x k) [ inl e ↦ b e | inr r ↦ Contains-nil x r ]
Distinct-not_last (z ∷ zs) y x a b k = elim (Contains-cons_cases z (zs ++ y ∷ []) x k) [
  | inl e ↦ a (subst (λ w. Contains (z ∷ zs) w) e (Contains-here z zs))
  | inr r ↦ Distinct-not_last zs y x (λ i. a (Contains-there z zs x i)) b r
]

pub Distinct-push : {X : Type 0} (xs : List X) (y : X) → Distinct xs → (Contains xs y → ⊥) → Distinct (xs ++ y ∷ [])
Distinct-push [] y d h = (Contains-nil y, tt)
Distinct-push (x ∷ xs) y d h = (
  Distinct-not_last xs y x d.0 (λ e. h (subst (λ z. Contains (x ∷ xs) z) (sym e) (Contains-here x xs))),
  Distinct-push xs y d.1 (λ k. h (Contains-there x xs y k)),
)

-- a list without one of its members
without : {X : Type 0} (us : List X) (x : X) → Contains us x → (vs : List X) × (length us ≡ suc (length vs)) × ((y : X) → Contains us y → (x ≡ y → ⊥) → Contains vs y)
without [] x h = absurd (Contains-nil x h)
without (u ∷ us) x h = elim (Contains-cons_cases u us x h) [
  | inl e ↦ (us, refl, λ y k d. elim (Contains-cons_cases u us y k) [ inl f ↦ absurd (d (sym e ∙ f)) | inr r ↦ r ])
  | inr r ↦
      let w : (vs : List _) × (length us ≡ suc (length vs)) × ((y : _) → Contains us y → (x ≡ y → ⊥) → Contains vs y) = without us x r in (
        u ∷ w.0,
        ap (λ n. suc n) w.1,
        λ y k d. elim (Contains-cons_cases u us y k) [
          | inl f ↦ subst (λ z. Contains (u ∷ w.0) z) f (Contains-here u w.0)
          | inr i ↦ Contains-there u w.0 y (w.2 y i d)
        ],
      )
]

-- distinct members of a list are at most as many
pub pigeonhole : {X : Type 0} (xs us : List X) → Distinct xs → ((x : X) → Contains xs x → Contains us x) → length xs ≤ length us
pigeonhole [] us d h = omega arith
pigeonhole (x ∷ xs) us d h =
    let w = without us x (h x (Contains-here x xs)) in
    let k : length xs ≤ length w.0 = pigeonhole xs w.0 d.1 (λ y i. w.2 y (h y (Contains-there x xs y i)) (λ e. d.0 (subst (λ z. Contains xs z) (sym e) i))) in
    let e : length us ≡ suc (length w.0) = w.1 in
    omega arith

-- the numbers below a bound, the greatest first
abbrev pub below : ℕ → List ℕ
below zero = []
below (suc n) = n ∷ below n

pub nat_less : (bound n : ℕ) → n < suc bound → (n < bound) ⊎ (bound ≡ n)
nat_less zero zero l = inr refl
nat_less zero (suc n) l = absurd (omega arith)
nat_less (suc bound) zero l = inl (omega arith)
nat_less (suc bound) (suc n) l = elim (nat_less bound n (omega arith)) [ inl a ↦ inl (omega arith) | inr e ↦ inr (ap (λ k. suc k) e) ]

less-step : (bound n : ℕ) → n < suc bound → (bound ≡ n → ⊥) → n < bound
less-step bound n l d = elim (nat_less bound n l) [ inl a ↦ a | inr e ↦ absurd (d e) ]

below-has : (bound n : ℕ) → n < bound → Contains (below bound) n
below-has zero n l = absurd (omega arith)
below-has (suc bound) n l = elim (nat_cases bound n) [
  | inl e ↦ subst (λ m. Contains (bound ∷ below bound) m) e (Contains-here bound (below bound))
  | inr d ↦ Contains-there bound (below bound) n (below-has bound n (less-step bound n l d))
]

length-below : (bound : ℕ) → length (below bound) ≡ bound
length-below zero = refl
length-below (suc bound) = ap (λ n. suc n) (length-below bound)

-- distinct numbers below a bound are at most as many
pub distinct-below : (bound : ℕ) (xs : List ℕ) → Distinct xs → ((x : ℕ) → Contains xs x → x < bound) → length xs ≤ bound
distinct-below bound xs d h =
    let k : length xs ≤ length (below bound) = pigeonhole xs (below bound) d (λ x i. below-has bound x (h x i)) in
    let e = length-below bound in
    omega arith
