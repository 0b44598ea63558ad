-- Numbers that stand for what a list has at their places.
-- Tied to `AreNeeded` by the contract of `Problem::needed`; need not be read.
use Rattle.std.specs.Prelude.{◌≡◌, ◌≤◌, ◌⊎◌, ℕ, List, [], ◌∷◌, ◌++◌, Some, length}
use Rattle.std.specs.List.{AllZip, Contains, slice_get}

-- the number is the place of x
abbrev pub Stands : {A : Type 0} → List A → ℕ → A → Type 0
Stands xs number x = slice_get xs number ≡ Some x

-- each number stands for what the other list has beside it
abbrev pub AllStand : {A : Type 0} → List A → List ℕ → List A → Type 0
AllStand {A} xs numbers ys = AllZip (Stands xs) numbers ys

-- new is old with more behind it
abbrev pub IsLonger : {A : Type 0} → List A → List A → Type 0
IsLonger {A} old new = (more : List A) × (new ≡ old ++ more)

-- x is put behind the others, unless it is one of them
abbrev pub IsWith : {A : Type 0} → A → List A → List A → Type 0
IsWith x old new = (Contains old x × (new ≡ old)) ⊎ ((Contains old x → ⊥) × (new ≡ old ++ x ∷ []))

-- no element stands twice: no list that has each of them is shorter
abbrev pub IsOnce : {A : Type 0} → List A → Type 0
IsOnce {A} xs = (others : List A) → ((x : A) → Contains xs x → Contains others x) → length xs ≤ length others
