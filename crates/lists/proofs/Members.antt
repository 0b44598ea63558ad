-- Members of lists, and lists at their places.
use Rattle.std.proofs.Common.{◌≡◌, ◌≢◌, ◌<◌, ◌≤◌, ◌⊎◌, ℕ, zero, suc, Bool, true, List, [], ◌∷◌, ◌++◌, Contains, length, get_or, take, drop, map, filter, refl, sym, ap, ◌∙◌, subst, inl, inr, arith}
use Rattle.std.proofs.lemmas.Bool.{cases_Bool}
use Rattle.std.proofs.lemmas.List.Elements.{Contains-append_cases, Contains-append_left, Contains-append_right}
use Rattle.std.specs.List.{flat_map}

pub Contains-here : {X : Type 0} (x : X) (xs : List X) → Contains (x ∷ xs) x
Contains-here x xs = (zero, omega arith, refl)

pub Contains-there : {X : Type 0} (y : X) (xs : List X) (x : X) → Contains xs x → Contains (y ∷ xs) x
Contains-there y xs x h = (suc h.0, omega arith, h.2)

pub Contains-nil : {X : Type 0} (x : X) → Contains [] x → ⊥
Contains-nil x h = omega arith

Contains-cons_at : {X : Type 0} (y : X) (xs : List X) (x : X) (k : ℕ) → k < length (y ∷ xs) → get_or (y ∷ xs) k x ≡ x → (y ≡ x) ⊎ Contains xs x
Contains-cons_at y xs x zero l e = inl e
Contains-cons_at y xs x (suc k) l e = inr (k, omega arith, e)

pub Contains-cons_cases : {X : Type 0} (y : X) (xs : List X) (x : X) → Contains (y ∷ xs) x → (y ≡ x) ⊎ Contains xs x
Contains-cons_cases y xs x h = Contains-cons_at y xs x h.0 h.1 h.2

-- a member of a map comes from a member
pub Contains-map : {X Y : Type 0} (f : X → Y) (xs : List X) (y : Y) → Contains (map f xs) y → (x : X) × Contains xs x × (f x ≡ y)
Contains-map f [] y h = absurd (Contains-nil y h)
Contains-map f (x ∷ xs) y h = elim (Contains-cons_cases (f x) (map f xs) y h) [
  | inl e ↦ (x, Contains-here x xs, e)
  | inr r ↦ let k : (x : _) × Contains xs x × (f x ≡ y) = Contains-map f xs y r in (k.0, Contains-there x xs k.0 k.1, k.2)
]

pub Contains-map_of : {X Y : Type 0} (f : X → Y) (xs : List X) (x : X) → Contains xs x → Contains (map f xs) (f x)
Contains-map_of f [] x h = absurd (Contains-nil x h)
Contains-map_of f (y ∷ ys) x h = elim (Contains-cons_cases y ys x h) [
  | inl e ↦ subst (λ z. Contains (f y ∷ map f ys) (f z)) e (Contains-here (f y) (map f ys))
  | inr r ↦ Contains-there (f y) (map f ys) (f x) (Contains-map_of f ys x r)
]

-- a filter has the members that pass
pub Contains-filter : {X : Type 0} (p : X → Bool) (xs : List X) (x : X) → Contains (filter p xs) x → Contains xs x × (p x ≡ true)
Contains-filter p [] x h = absurd (Contains-nil x h)
Contains-filter p (y ∷ ys) x h = elim (cases_Bool (p y)) [
  | inl passes ↦ elim (Contains-cons_cases y (filter p ys) x (rw passes at h)) [
    | inl e ↦ (subst (λ z. Contains (y ∷ ys) z) e (Contains-here y ys), subst (λ z. p z ≡ true) e passes)
    | inr r ↦ let k = Contains-filter p ys x r in (Contains-there y ys x k.0, k.1)
  ]
  | inr fails ↦ let k = Contains-filter p ys x (rw fails at h) in (Contains-there y ys x k.0, k.1)
]

pub Contains-filter_of : {X : Type 0} (p : X → Bool) (xs : List X) (x : X) → Contains xs x → p x ≡ true → Contains (filter p xs) x
Contains-filter_of p [] x h passes = absurd (Contains-nil x h)
Contains-filter_of p (y ∷ ys) x h passes = elim (Contains-cons_cases y ys x h) [
  | inl e ↦ let this : p y ≡ true = ap p e ∙ passes in rw this (subst (λ z. Contains (y ∷ filter p ys) z) e (Contains-here y (filter p ys)))
  | inr r ↦ elim (cases_Bool (p y)) [
    | inl this ↦ rw this (Contains-there y (filter p ys) x (Contains-filter_of p ys x r passes))
    | inr other ↦ rw other (Contains-filter_of p ys x r passes)
  ]
]

-- a member of lists that are put together is a member of one of them
pub Contains-flat_map : {X Y : Type 0} (f : X → List Y) (xs : List X) (y : Y) → Contains (flat_map f xs) y → (x : X) × Contains xs x × Contains (f x) y
Contains-flat_map f [] y h = absurd (Contains-nil y h)
Contains-flat_map f (x ∷ xs) y h = elim (Contains-append_cases (f x) (flat_map f xs) y h) [
  | inl here ↦ (x, Contains-here x xs, here)
  | inr r ↦ let k : (x : _) × Contains xs x × Contains (f x) y = Contains-flat_map f xs y r in (k.0, Contains-there x xs k.0 k.1, k.2)
]

pub Contains-flat_map_of : {X Y : Type 0} (f : X → List Y) (xs : List X) (x : X) (y : Y) → Contains xs x → Contains (f x) y → Contains (flat_map f xs) y
Contains-flat_map_of f [] x y h k = absurd (Contains-nil x h)
Contains-flat_map_of f (z ∷ zs) x y h k = elim (Contains-cons_cases z zs x h) [
  | inl e ↦ Contains-append_left (f z) (flat_map f zs) y (subst (λ w. Contains (f w) y) (sym e) k)
  | inr r ↦ Contains-append_right (f z) (flat_map f zs) y (Contains-flat_map_of f zs x y r k)
]

-- ---- places

-- a member of the first k + 1 is one of the first k or the one at k
pub Contains-take_suc : {X : Type 0} (xs : List X) (k : ℕ) (d w : X) → k < length xs → Contains (take (suc k) xs) w → Contains (take k xs) w ⊎ (get_or xs k d ≡ w)
Contains-take_suc [] k d w l h = absurd (omega arith)
Contains-take_suc (x ∷ xs) zero d w l h = elim (Contains-cons_cases x (take 0 xs) w h) [ inl e ↦ inr e | inr r ↦ inl r ]
Contains-take_suc (x ∷ xs) (suc k) d w l h = elim (Contains-cons_cases x (take (suc k) xs) w h) [
  | inl e ↦ inl (subst (λ z. Contains (x ∷ take k xs) z) e (Contains-here x (take k xs)))
  | inr r ↦ elim (Contains-take_suc xs k d w (omega arith) r) [ inl a ↦ inl (Contains-there x (take k xs) w a) | inr b ↦ inr b ]
]

-- a list at one of its places
pub split_at : {X : Type 0} (xs : List X) (k : ℕ) (d : X) → k < length xs → xs ≡ take k xs ++ (get_or xs k d ∷ drop (suc k) xs)
split_at [] k d l = absurd (omega arith)
split_at (x ∷ xs) zero d l = refl
split_at (x ∷ xs) (suc k) d l = ap (λ ys. x ∷ ys) (split_at xs k d (omega arith))

pub get_or-any : {X : Type 0} (xs : List X) (k : ℕ) (d e : X) → k < length xs → get_or xs k d ≡ get_or xs k e
get_or-any [] k d e l = absurd (omega arith)
get_or-any (x ∷ xs) zero d e l = refl
get_or-any (x ∷ xs) (suc k) d e l = get_or-any xs k d e (omega arith)

pub Contains-take_zero : {X : Type 0} (xs : List X) (w : X) → Contains (take 0 xs) w → ⊥
Contains-take_zero [] w h = Contains-nil w h
Contains-take_zero (x ∷ xs) w h = Contains-nil w h

pub take-whole : {X : Type 0} (xs : List X) (k : ℕ) → length xs ≤ k → take k xs ≡ xs
take-whole [] zero l = refl
take-whole [] (suc k) l = refl
take-whole (x ∷ xs) zero l = absurd (omega arith)
take-whole (x ∷ xs) (suc k) l = ap (λ ys. x ∷ ys) (take-whole xs k (omega arith))

pub nat_cases : (a b : ℕ) → (a ≡ b) ⊎ (a ≢ b)
nat_cases zero zero = inl refl
nat_cases zero (suc b) = inr (λ e. omega arith)
nat_cases (suc a) zero = inr (λ e. omega arith)
nat_cases (suc a) (suc b) = elim (nat_cases a b) [ inl e ↦ inl (ap (λ n. suc n) e) | inr d ↦ inr (λ e. d (omega arith)) ]

pub map-append : {X Y : Type 0} (f : X → Y) (xs ys : List X) → map f (xs ++ ys) ≡ map f xs ++ map f ys
map-append f [] ys = refl
map-append f (x ∷ xs) ys = ap (λ zs. f x ∷ zs) (map-append f xs ys)
