-- Tests that decide facts, put together.
use Rattle.std.proofs.Common.{◌≡◌, ◌⊎◌, inl, inr, ◌&&◌, ◌||◌, not, Bool, true, false, List, [], ◌∷◌, Some, None, Contains, find, map, filter, refl, sym, ap, subst}
use Rattle.std.specs.Bool.{Decides}
use Rattle.std.specs.List.{list_all, list_any}
use Rattle.std.proofs.lemmas.Bool.{cases_Bool}
use Rattle.lists.proofs.Members.{Contains-cons_cases, Contains-here, Contains-nil, Contains-there}

-- a member of the list with a property
pub record IsThere {X : Type 0} (P : X → Type 0) (xs : List X) : Type 0 where
  pub item : X
  pub there : Contains xs item
  pub is : P item

pub there-more : {X : Type 0} (P : X → Type 0) (y : X) (ys : List X) → IsThere P ys → IsThere P (y ∷ ys)
there-more P y ys k = record { item = k.item; there = Contains-there y ys k.item k.there; is = k.is }

pub decides-onto : {P Q : Type 0} (b : Bool) → Decides b P → (P → Q) → (Q → P) → Decides b Q
decides-onto b d f g = ((λ h. f (d.0 h)), (λ q. d.1 (g q)))

pub decides-itself : (b : Bool) → Decides b (b ≡ true)
decides-itself b = ((λ h. h), (λ h. h))

-- what a test denies isn't so
pub never : {P : Type 0} (b : Bool) → Decides b P → b ≡ false → P → ⊥
never b d e p = let t = d.1 p in absurd cc

pub decides-not : (b : Bool) → Decides (not b) (b ≡ false)
decides-not true = ((λ h. sym h), (λ h. sym h))
decides-not false = ((λ h. refl), (λ h. refl))

pub decides-both : {P Q : Type 0} (a b : Bool) → Decides a P → Decides b Q → Decides (a && b) (P × Q)
decides-both true b d e = ((λ h. (d.0 refl, e.0 h)), (λ k. e.1 k.1))
decides-both false b d e = ((λ h. absurd cc), (λ k. d.1 k.0))

pub decides-either : {P Q : Type 0} (a b : Bool) → Decides a P → Decides b Q → Decides (a || b) (P ⊎ Q)
decides-either true b d e = ((λ h. inl (d.0 refl)), (λ k. refl))
decides-either false b d e = ((λ h. inr (e.0 h)), (λ k. elim k [ inl p ↦ (let t = d.1 p in absurd cc) | inr q ↦ e.1 q ]))

pub decides-any : {X : Type 0} (p : X → Bool) (P : X → Type 0) (xs : List X) → ((x : X) → Decides (p x) (P x)) → Decides (list_any p xs) (IsThere P xs)
decides-any p P [] d = ((λ h. absurd cc), (λ k. absurd (Contains-nil k.item k.there)))
decides-any p P (y ∷ ys) d = decides-onto (p y || list_any p ys) (decides-either (p y) (list_any p ys) (d y) (decides-any p P ys d))
    (λ k. elim k [ inl h ↦ record { item = y; there = Contains-here y ys; is = h } | inr r ↦ there-more P y ys r ])
    (λ k. elim (Contains-cons_cases y ys k.item k.there) [
      | inl e ↦ inl (subst P (sym e) k.is)
      | inr r ↦ inr (record { item = k.item; there = r; is = k.is })
    ])

pub decides-all : {X : Type 0} (p : X → Bool) (P : X → Type 0) (xs : List X) → ((x : X) → Decides (p x) (P x)) → Decides (list_all p xs) ((x : X) → Contains xs x → P x)
decides-all p P [] d = ((λ h x there. absurd (Contains-nil x there)), (λ k. refl))
decides-all p P (y ∷ ys) d = decides-onto (p y && list_all p ys) (decides-both (p y) (list_all p ys) (d y) (decides-all p P ys d))
    (λ k x there. elim (Contains-cons_cases y ys x there) [ inl e ↦ subst P e k.0 | inr r ↦ k.1 x r ])
    (λ k. (k y (Contains-here y ys), λ x there. k x (Contains-there y ys x there)))

-- what passes one test of a list that another test was left of
pub any-filtered : {X : Type 0} (p q : X → Bool) (xs : List X) → list_any (λ x. q x && p x) xs ≡ list_any p (filter q xs)
any-filtered p q [] = refl
any-filtered p q (x ∷ xs) = elim (cases_Bool (q x)) [
  | inl passes ↦ rw passes (ap (λ b. p x || b) (any-filtered p q xs))
  | inr fails ↦ rw fails (any-filtered p q xs)
]

pub any-mapped : {X Y : Type 0} (p : Y → Bool) (f : X → Y) (xs : List X) → list_any (λ x. p (f x)) xs ≡ list_any p (map f xs)
any-mapped p f [] = refl
any-mapped p f (x ∷ xs) = ap (λ b. p (f x) || b) (any-mapped p f xs)

-- what is found is there, and passes the test
pub found-is : {X : Type 0} (p : X → Bool) (xs : List X) (x : X) → find p xs ≡ Some x → Contains xs x × (p x ≡ true)
found-is p [] x e = absurd cc
found-is p (y ∷ ys) x e = elim (cases_Bool (p y)) [
  | inl passes ↦
      let k = rw passes at e in
      let same : y ≡ x = cc in
      (subst (λ z. Contains (y ∷ ys) z) same (Contains-here y ys), subst (λ z. p z ≡ true) same passes)
  | inr fails ↦ let k = found-is p ys x (rw fails at e) in (Contains-there y ys x k.0, k.1)
]

pub found-none : {X : Type 0} (p : X → Bool) (xs : List X) → find p xs ≡ None → list_any p xs ≡ false
found-none p [] e = refl
found-none p (y ∷ ys) e = elim (cases_Bool (p y)) [
  | inl passes ↦ (let k = rw passes at e in absurd cc)
  | inr fails ↦ rw fails (found-none p ys (rw fails at e))
]
