-- Items put one after another into a list that is in order.
use Rattle.std.proofs.Common.{◌≡◌, ◌⊎◌, Bool, true, false, cond, List, [], ◌∷◌, ◌++◌, Contains, Option, Some, None, Ordering, Less, Equal, Greater, find, fold, refl, sym, ap, subst, inl, inr, ◌∙◌, append_assoc}
use Rattle.std.specs.Bool.{⊤}
use Rattle.std.specs.BTreeSet.{insert_key}
use Rattle.std.specs.Cmp.{IsTotalOrder, alike_right}
use Rattle.std.specs.List.{AllByRecursion}
use Rattle.std.specs.List.Sorted.{IsStrictlySortedBy}
use Rattle.std.specs.Ordering.{is_eq, match_ordering, ordering_reverse}
use Rattle.lists.proofs.Members.{Contains-cons_cases, Contains-here, Contains-nil, Contains-there}

all_by : {K : Type 0} (o : Ordering) (P : K → Type 0) (k y : K) (ys more : List K) → P k → AllByRecursion P (y ∷ ys) → AllByRecursion P more
    → AllByRecursion P (match_ordering o (k ∷ y ∷ ys) (y ∷ ys) (y ∷ more))
all_by Less P k y ys more here all rest = (here, all)
all_by Equal P k y ys more here all rest = all
all_by Greater P k y ys more here all rest = (all.0, rest)

-- what holds of each item and of the new one holds of each item then
pub all-insert : {K : Type 0} (R : K → K → Ordering) (P : K → Type 0) (k : K) (ks : List K) → P k → AllByRecursion P ks → AllByRecursion P (insert_key R ks k)
all-insert R P k [] here all = (here, tt)
all-insert R P k (y ∷ ys) here all = all_by (R k y) P k y ys (insert_key R ys k) here all (all-insert R P k ys here all.1)

-- what is below x is below each item that x is below
pub above-trans : {K : Type 0} {R : K → K → Ordering} (total : IsTotalOrder R) (k x : K) (ks : List K) → R k x ≡ Less → AllByRecursion (λ z. R x z ≡ Less) ks → AllByRecursion (λ z. R k z ≡ Less) ks
above-trans total k x [] lt all = tt
above-trans total k x (y ∷ ys) lt all = (total.trans k x y lt all.0, above-trans total k x ys lt all.1)

sorted_by : {K : Type 0} {R : K → K → Ordering} (total : IsTotalOrder R) (o : Ordering) (x k : K) (xs : List K) → R k x ≡ o → IsStrictlySortedBy R (x ∷ xs) → IsStrictlySortedBy R (insert_key R xs k)
    → IsStrictlySortedBy R (match_ordering o (k ∷ x ∷ xs) (x ∷ xs) (x ∷ insert_key R xs k))
unfolding IsStrictlySortedBy
sorted_by total Less x k xs is s more = ((is, above-trans total k x xs is s.0), s)
sorted_by total Equal x k xs is s more = s
sorted_by {R = R} total Greater x k xs is s more = (all-insert R (λ z. R x z ≡ Less) k xs (total.antisymm x k ∙ ap ordering_reverse is) s.0, more)

-- the list stays in order
pub sorted-insert : {K : Type 0} {R : K → K → Ordering} (total : IsTotalOrder R) (ks : List K) (k : K) → IsStrictlySortedBy R ks → IsStrictlySortedBy R (insert_key R ks k)
unfolding IsStrictlySortedBy
sorted-insert total [] k s = (tt, tt)
sorted-insert {R = R} total (x ∷ xs) k s = sorted_by total (R k x) x k xs refl s (sorted-insert total xs k s.1)

-- ---- many items

-- what holds of each item holds of each that was put in
pub all-inserted : {K : Type 0} (R : K → K → Ordering) (P : K → Type 0) (so_far ks : List K) → AllByRecursion P so_far → AllByRecursion P ks → AllByRecursion P (fold (insert_key R) so_far ks)
all-inserted R P so_far [] before all = before
all-inserted R P so_far (k ∷ ks) before all = all-inserted R P (insert_key R so_far k) ks (all-insert R P k so_far all.0 before) all.1

pub sorted-inserted : {K : Type 0} {R : K → K → Ordering} (total : IsTotalOrder R) (so_far ks : List K) → IsStrictlySortedBy R so_far → IsStrictlySortedBy R (fold (insert_key R) so_far ks)
sorted-inserted total so_far [] s = s
sorted-inserted {R = R} total so_far (k ∷ ks) s = sorted-inserted total (insert_key R so_far k) ks (sorted-insert total so_far k s)

-- ---- items that are in order

-- an item above all goes to the end
insert-last : {K : Type 0} (R : K → K → Ordering) (ks : List K) (k : K) → AllByRecursion (λ z. R k z ≡ Greater) ks → insert_key R ks k ≡ ks ++ k ∷ []
insert-last R [] k above = refl
insert-last R (x ∷ xs) k above = rw above.0 (ap (λ l. x ∷ l) (insert-last R xs k above.1))

-- what is above an item of another is above what that is above
above-last : {K : Type 0} {R : K → K → Ordering} (total : IsTotalOrder R) (ks : List K) (k next : K) → R k next ≡ Less → AllByRecursion (λ z. R k z ≡ Greater) ks → AllByRecursion (λ z. R next z ≡ Greater) (ks ++ k ∷ [])
above-last total [] k next lt above = (total.antisymm next k ∙ ap ordering_reverse lt, tt)
above-last {R = R} total (x ∷ xs) k next lt above =
    let below : R x k ≡ Less = total.antisymm x k ∙ ap ordering_reverse above.0 in
    (total.antisymm next x ∙ ap ordering_reverse (total.trans x k next below lt), above-last total xs k next lt above.1)

-- whether each item is above the one before it
abbrev pub Rises : {K : Type 0} → (K → K → Ordering) → List K → Type 0
Rises R [] = ⊤
Rises R (k ∷ []) = ⊤
Rises R (k ∷ next ∷ ks) = (R k next ≡ Less) × Rises R (next ∷ ks)

rising-from : {K : Type 0} {R : K → K → Ordering} (total : IsTotalOrder R) (front : List K) (k : K) (ks : List K) → AllByRecursion (λ z. R k z ≡ Greater) front → Rises R (k ∷ ks)
    → fold (insert_key R) front (k ∷ ks) ≡ front ++ k ∷ ks
rising-from {R = R} total front k [] above rises = insert-last R front k above
rising-from {R = R} total front k (next ∷ ks) above rises =
    rw (insert-last R front k above) (rising-from total (front ++ k ∷ []) next ks (above-last total front k next rises.0 above) rises.1 ∙ append_assoc front (k ∷ []) (next ∷ ks))

-- items that rise are put where they are
pub rising : {K : Type 0} {R : K → K → Ordering} (total : IsTotalOrder R) (ks : List K) → Rises R ks → fold (insert_key R) [] ks ≡ ks
rising total [] rises = refl
rising total (k ∷ ks) rises = rising-from total [] k ks tt rises

-- ---- the first of equal items stays

-- the first option that has a value
abbrev or_else : {X : Type 0} → Option X → Option X → Option X
or_else (Some x) other = Some x
or_else None other = other

or_else-none : {X : Type 0} (o : Option X) → o ≡ or_else o None
or_else-none (Some x) = refl
or_else-none None = refl

or_else-assoc : {X : Type 0} (a b c : Option X) → or_else (or_else a b) c ≡ or_else a (or_else b c)
or_else-assoc (Some x) b c = refl
or_else-assoc None b c = refl

-- an item that is below all of a list is equal to a: no item of the list is
none_above : {K : Type 0} {R : K → K → Ordering} (total : IsTotalOrder R) (a k : K) (ks : List K) → R a k ≡ Equal → AllByRecursion (λ z. R k z ≡ Less) ks → find (λ z. is_eq (R a z)) ks ≡ None
none_above total a k [] e all = refl
none_above total a k (y ∷ ys) e all = rw (total.congr a k y e, all.0) (none_above total a k ys e all.1)

below_all : {K : Type 0} {R : K → K → Ordering} (total : IsTotalOrder R) (o : Ordering) (a k : K) (ks : List K) → R a k ≡ o → AllByRecursion (λ z. R k z ≡ Less) ks
    → cond (is_eq o) (Some k) (find (λ z. is_eq (R a z)) ks) ≡ or_else (find (λ z. is_eq (R a z)) ks) (cond (is_eq o) (Some k) None)
below_all {R = R} total Less a k ks is all = or_else-none (find (λ z. is_eq (R a z)) ks)
below_all total Equal a k ks is all = rw (none_above total a k ks is all) refl
below_all {R = R} total Greater a k ks is all = or_else-none (find (λ z. is_eq (R a z)) ks)

-- an equal item is there
equal_there : {X : Type 0} (b : Bool) (x k : X) (later : Option X) → cond b (Some x) later ≡ or_else (cond b (Some x) later) (cond b (Some k) None)
equal_there true x k later = refl
equal_there false x k later = or_else-none later

past : {X : Type 0} (b : Bool) (x : X) (new later more : Option X) → new ≡ or_else later more → cond b (Some x) new ≡ or_else (cond b (Some x) later) more
past true x new later more e = refl
past false x new later more e = e

find_by : {K : Type 0} {R : K → K → Ordering} (total : IsTotalOrder R) (o : Ordering) (a x k : K) (xs : List K) → R k x ≡ o → IsStrictlySortedBy R (x ∷ xs)
    → find (λ z. is_eq (R a z)) (insert_key R xs k) ≡ or_else (find (λ z. is_eq (R a z)) xs) (cond (is_eq (R a k)) (Some k) None)
    → find (λ z. is_eq (R a z)) (match_ordering o (k ∷ x ∷ xs) (x ∷ xs) (x ∷ insert_key R xs k)) ≡ or_else (find (λ z. is_eq (R a z)) (x ∷ xs)) (cond (is_eq (R a k)) (Some k) None)
unfolding IsStrictlySortedBy
find_by {R = R} total Less a x k xs is s more = below_all total (R a k) a k (x ∷ xs) refl (is, above-trans total k x xs is s.0)
find_by {R = R} total Equal a x k xs is s more = rw (alike_right total k x a is) (equal_there (is_eq (R a x)) x k (find (λ z. is_eq (R a z)) xs))
find_by {R = R} total Greater a x k xs is s more = past (is_eq (R a x)) x _ _ _ more

-- an item that is put in is found where no equal one is there
find-insert : {K : Type 0} {R : K → K → Ordering} (total : IsTotalOrder R) (a : K) (ks : List K) (k : K) → IsStrictlySortedBy R ks
    → find (λ z. is_eq (R a z)) (insert_key R ks k) ≡ or_else (find (λ z. is_eq (R a z)) ks) (cond (is_eq (R a k)) (Some k) None)
unfolding IsStrictlySortedBy
find-insert total a [] k s = refl
find-insert {R = R} total a (x ∷ xs) k s = find_by total (R k x) a x k xs refl s (find-insert total a xs k s.1)

front_found : {X : Type 0} (b : Bool) (x : X) (later : Option X) → or_else (cond b (Some x) None) later ≡ cond b (Some x) later
front_found true x later = refl
front_found false x later = refl

pub find-inserted : {K : Type 0} {R : K → K → Ordering} (total : IsTotalOrder R) (a : K) (so_far ks : List K) → IsStrictlySortedBy R so_far
    → find (λ z. is_eq (R a z)) (fold (insert_key R) so_far ks) ≡ or_else (find (λ z. is_eq (R a z)) so_far) (find (λ z. is_eq (R a z)) ks)
find-inserted {R = R} total a so_far [] s = or_else-none (find (λ z. is_eq (R a z)) so_far)
find-inserted {R = R} total a so_far (k ∷ ks) s =
    find-inserted total a (insert_key R so_far k) ks (sorted-insert total so_far k s)
    ∙ ap (λ o. or_else o (find (λ z. is_eq (R a z)) ks)) (find-insert total a so_far k s)
    ∙ or_else-assoc (find (λ z. is_eq (R a z)) so_far) _ _
    ∙ ap (or_else (find (λ z. is_eq (R a z)) so_far)) (front_found (is_eq (R a k)) k _)

-- ---- members

from_by : {K : Type 0} (o : Ordering) (y k : K) (ys more : List K) (x : K) → (Contains more x → Contains ys x ⊎ (k ≡ x))
    → Contains (match_ordering o (k ∷ y ∷ ys) (y ∷ ys) (y ∷ more)) x → Contains (y ∷ ys) x ⊎ (k ≡ x)
from_by Less y k ys more x rest h = elim (Contains-cons_cases k (y ∷ ys) x h) [ inl e ↦ inr e | inr r ↦ inl r ]
from_by Equal y k ys more x rest h = inl h
from_by Greater y k ys more x rest h = elim (Contains-cons_cases y more x h) [
  | inl e ↦ inl (subst (λ z. Contains (y ∷ ys) z) e (Contains-here y ys))
  | inr r ↦ elim (rest r) [ inl old ↦ inl (Contains-there y ys x old) | inr e ↦ inr e ]
]

-- a member then is one from before, or the new item
pub from-insert : {K : Type 0} (R : K → K → Ordering) (ks : List K) (k x : K) → Contains (insert_key R ks k) x → Contains ks x ⊎ (k ≡ x)
from-insert R [] k x h = elim (Contains-cons_cases k [] x h) [ inl e ↦ inr e | inr r ↦ inl r ]
from-insert R (y ∷ ys) k x h = from_by (R k y) y k ys (insert_key R ys k) x (from-insert R ys k x) h

kept_by : {K : Type 0} (o : Ordering) (y k : K) (ys more : List K) (x : K) → (Contains ys x → Contains more x)
    → Contains (y ∷ ys) x → Contains (match_ordering o (k ∷ y ∷ ys) (y ∷ ys) (y ∷ more)) x
kept_by Less y k ys more x rest h = Contains-there k (y ∷ ys) x h
kept_by Equal y k ys more x rest h = h
kept_by Greater y k ys more x rest h = elim (Contains-cons_cases y ys x h) [
  | inl e ↦ subst (λ z. Contains (y ∷ more) z) e (Contains-here y more)
  | inr r ↦ Contains-there y more x (rest r)
]

-- and each from before is one
pub kept-insert : {K : Type 0} (R : K → K → Ordering) (ks : List K) (k x : K) → Contains ks x → Contains (insert_key R ks k) x
kept-insert R [] k x h = absurd (Contains-nil x h)
kept-insert R (y ∷ ys) k x h = kept_by (R k y) y k ys (insert_key R ys k) x (kept-insert R ys k x) h

put_by : {K : Type 0} (R : K → K → Ordering) (exact : (a b : K) → R a b ≡ Equal → a ≡ b) (o : Ordering) (y k : K) (ys more : List K) → R k y ≡ o
    → Contains more k → Contains (match_ordering o (k ∷ y ∷ ys) (y ∷ ys) (y ∷ more)) k
put_by R exact Less y k ys more is there = Contains-here k (y ∷ ys)
put_by R exact Equal y k ys more is there = subst (λ z. Contains (y ∷ ys) z) (sym (exact k y is)) (Contains-here y ys)
put_by R exact Greater y k ys more is there = Contains-there y more k there

-- and so is the new item, where none but itself is equal to it in the order
pub put-insert : {K : Type 0} (R : K → K → Ordering) (exact : (a b : K) → R a b ≡ Equal → a ≡ b) (ks : List K) (k : K) → Contains (insert_key R ks k) k
put-insert R exact [] k = Contains-here k []
put-insert R exact (y ∷ ys) k = put_by R exact (R k y) y k ys (insert_key R ys k) refl (put-insert R exact ys k)
