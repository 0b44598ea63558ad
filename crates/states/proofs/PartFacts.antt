-- What holds of each item of a list, item by item, and of answers.
use Rattle.std.proofs.Common.{◌≡◌, ◌<◌, ℕ, zero, suc, List, [], ◌∷◌, Contains, length, get_or, refl, subst, inl, inr, arith, Result, Ok, Err, IfOk, false}
use Rattle.std.specs.Prelude.{IsTrue}
use Rattle.std.specs.List.{AllByRecursion}
use Rattle.lists.proofs.Members.{Contains-cons_cases, Contains-here, Contains-nil, Contains-there}

pub AllByRecursion-at : {X : Type 0} (P : X → Type 0) (xs : List X) (i : ℕ) (d : X) → i < length xs → AllByRecursion P xs → P (get_or xs i d)
AllByRecursion-at P [] i d within all = absurd (omega arith)
AllByRecursion-at P (x ∷ xs) zero d within all = all.0
AllByRecursion-at P (x ∷ xs) (suc i) d within all = AllByRecursion-at P xs i d (omega arith) all.1

-- what holds of all items holds of each, and the other way
pub All-member : {X : Type 0} (P : X → Type 0) (xs : List X) (x : X) → AllByRecursion P xs → Contains xs x → P x
All-member P [] x all there = absurd (Contains-nil x there)
All-member P (y ∷ ys) x all there = elim (Contains-cons_cases y ys x there) [
  | inl same ↦ subst P same all.0
  | inr more ↦ All-member P ys x all.1 more
]

pub All-of : {X : Type 0} (P : X → Type 0) (xs : List X) → ((x : X) → Contains xs x → P x) → AllByRecursion P xs
All-of P [] each = tt
All-of P (y ∷ ys) each = (each y (Contains-here y ys), All-of P ys (λ x there. each x (Contains-there y ys x there)))

-- an item within a list is there whatever stands for one past its end
pub item-within : {X : Type 0} (xs : List X) (i : ℕ) (d e : X) → i < length xs → get_or xs i d ≡ get_or xs i e
item-within [] i d e within = absurd (omega arith)
item-within (x ∷ xs) zero d e within = refl
item-within (x ∷ xs) (suc i) d e within = item-within xs i d e (omega arith)

-- what an answer holds, told otherwise
pub IfOk-onto : {T E : Type 0} (P Q : T → Type 0) (r : Result T E) → ((x : T) → P x → Q x) → IfOk r P → IfOk r Q
IfOk-onto P Q (Ok x) f is = f x is
IfOk-onto P Q (Err e) f is = tt

-- what is false isn't so
pub not-so : IsTrue false → ⊥
not-so h = cc h
