-- Loops over a list that test each item.
use Rattle.std.proofs.Common.{ℕ, zero, suc, List, [], ◌∷◌, ◌≡◌, ◌<◌, ◌≤◌, ◌+◌, inl, inr, Contains, length, get_or, take, sym, subst, arith, add-one}
use Rattle.lists.proofs.Members.{Contains-here, Contains-there, Contains-take_suc, take-whole}

pub at-member : {X : Type 0} (xs : List X) (k : ℕ) (d : X) → k < length xs → Contains xs (get_or xs k d)
at-member [] k d l = absurd (omega arith)
at-member (x ∷ xs) zero d l = Contains-here x xs
at-member (x ∷ xs) (suc k) d l = Contains-there x xs (get_or xs k d) (at-member xs k d (omega arith))

pub each-more : {X : Type 0} (P : X → Type 0) (xs : List X) (i : ℕ) (d : X) → i < length xs → ((x : X) → Contains (take i xs) x → P x) → P (get_or xs i d) → (x : X) → Contains (take (i + 1) xs) x → P x
each-more P xs i d l h k x j = elim (Contains-take_suc xs i d x l (rw add-one at j)) [ inl a ↦ h x a | inr b ↦ subst P b k ]

pub each-end : {X : Type 0} (P : X → Type 0) (xs : List X) (i : ℕ) → length xs ≤ i → ((x : X) → Contains (take i xs) x → P x) → (x : X) → Contains xs x → P x
each-end P xs i l h x j = h x (subst (λ ys. Contains ys x) (sym (take-whole xs i l)) j)

-- the same of items that are read by a name
pub item-member : {X : Type 0} (xs : List X) (k : ℕ) (x : X) → k < length xs → x ≡ get_or xs k x → Contains xs x
item-member xs k x l is = subst (λ y. Contains xs y) (sym is) (at-member xs k x l)

pub item-more : {X : Type 0} (P : X → Type 0) (xs : List X) (i : ℕ) (x : X) → i < length xs → x ≡ get_or xs i x → ((y : X) → Contains (take i xs) y → P y) → P x → (y : X) → Contains (take (i + 1) xs) y → P y
item-more P xs i x l is h k = each-more P xs i x l h (subst P is k)
