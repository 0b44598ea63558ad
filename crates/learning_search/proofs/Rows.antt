-- What is required on each name, and on which names a node may have to be chosen.
use Rattle.std.proofs.Common.{ℕ, zero, suc, List, [], ◌∷◌, ◌++◌, ◌≡◌, ◌<◌, ◌≤◌, ◌+◌, ◌-◌, ◌⊎◌, ◌==◌, inl, inr, Contains, length, get_or, take, filter, slice_set, refl, sym, ◌∙◌, ap, subst, arith, Some, None, Option, Bool, true, false, cond, nat_eq, append-nil, length-append, is_some, MatchOption, IfSome, IsSome, ◌↔◌, Bor}
use Rattle.std.proofs.lemmas.Bool.{eqb-true}
use Rattle.std.proofs.lemmas.List.Elements.{filter-append, Contains-append_left, Contains-push_cases}
use Rattle.std.specs.BTreeSet.{insert_key}
use Rattle.std.specs.Global.{Vec}
use Rattle.std.specs.Ordering.{nat_cmp, match_ordering, is_gt}
use Rattle.std.specs.Cmp.{nat_cmp_is}
use Rattle.std.specs.List.{All, slice_get}
use Rattle.std.specs.Option.{option_copied}
use Rattle.std.specs.BTreeMap.Range.{IsLeBy}
use Rattle.std.proofs.lemmas.List.Elements.{All-contains}
use Rattle.std.proofs.lemmas.List.{length-take-le}
use Rattle.std.specs.declared.cmp.Ordering.{Ordering}
use Rattle.std.specs.declared.cmp.Ordering.TheVariants.{Less, Equal, Greater}
use Rattle.search.proofs.PlacesEquality.{eq-itself, off-of}
use Rattle.search.proofs.Least.{nat-order}
use Rattle.lists.proofs.Members.{Contains-here, Contains-there, Contains-cons_cases, Contains-nil, nat_cases, take-whole}
use Rattle.search.proofs.Nodes.{take-front}
use Rattle.search.proofs.Ranges.{name-known, nodes-known}
use Rattle.search.proofs.TakenFacts.{split-nat}
use Rattle.learning_search.specs.declared.demands.Demands.{Demands}
use Rattle.learning_search.specs.declared.demands.Demand.{Demand}
use Rattle.search.specs.declared.conflict.NodeChoice.{NodeChoice}
use Rattle.learning_search.specs.Tied.Demands.{AreRowed, IsListed, demands_on, row_at}
use Rattle.search.specs.Rules.{Rules}
use Rattle.search.specs.Table.{TableParts, rules_of, in_range, requirement_at}

-- ---- rows

pub row-set_same : (rows : List (Vec Demand)) (k : ℕ) (row : Vec Demand) → k < length rows → row_at (slice_set rows k row) k ≡ row.items
row-set_same [] k row l = absurd (omega arith)
row-set_same (r ∷ rows) zero row l = refl
row-set_same (r ∷ rows) (suc k) row l = row-set_same rows k row (omega arith)

pub row-set_other : (rows : List (Vec Demand)) (k n : ℕ) (row : Vec Demand) → (n ≡ k → ⊥) → row_at (slice_set rows k row) n ≡ row_at rows n
row-set_other [] k n row h = refl
row-set_other (r ∷ rows) zero zero row h = absurd (h refl)
row-set_other (r ∷ rows) zero (suc n) row h = refl
row-set_other (r ∷ rows) (suc k) zero row h = refl
row-set_other (r ∷ rows) (suc k) (suc n) row h = row-set_other rows k n row (λ e. h (ap (λ m. suc m) e))

pub row-at : (rows : List (Vec Demand)) (k : ℕ) (d : Vec Demand) → k < length rows → row_at rows k ≡ (get_or rows k d).items
row-at [] k d l = absurd (omega arith)
row-at (r ∷ rows) zero d l = refl
row-at (r ∷ rows) (suc k) d l = row-at rows k d (omega arith)

pub row-beyond : (rows : List (Vec Demand)) (k : ℕ) → length rows ≤ k → row_at rows k ≡ []
row-beyond [] k l = refl
row-beyond (r ∷ rows) zero l = absurd (omega arith)
row-beyond (r ∷ rows) (suc k) l = row-beyond rows k (omega arith)

pub row-empty_push : (rows : List (Vec Demand)) (row : Vec Demand) → row.items ≡ [] → ((n : ℕ) → row_at rows n ≡ []) → (n : ℕ) → row_at (rows ++ row ∷ []) n ≡ []
row-empty_push [] row e h zero = e
row-empty_push [] row e h (suc n) = refl
row-empty_push (r ∷ rows) row e h zero = h zero
row-empty_push (r ∷ rows) row e h (suc n) = row-empty_push rows row e (λ m. h (suc m)) n

-- ---- what is required on a name

filter-one : {X : Type 0} (p : X → Bool) (x : X) (b : Bool) → p x ≡ b → filter p (x ∷ []) ≡ cond b (x ∷ []) []
filter-one p x b e = ap (λ c. cond c (x ∷ []) []) e

pub demands_on-own : (rules : Rules ℕ ℕ ℕ ℕ) (listed : List Demand) (demand : Demand) → demands_on rules (rules.name demand.requirement) (listed ++ demand ∷ []) ≡ demands_on rules (rules.name demand.requirement) listed ++ demand ∷ []
demands_on-own rules listed demand =
    filter-append (λ (a : Demand). rules.name a.requirement == rules.name demand.requirement) listed (demand ∷ [])
    ∙ ap (λ xs. demands_on rules (rules.name demand.requirement) listed ++ xs) (filter-one (λ (a : Demand). rules.name a.requirement == rules.name demand.requirement) demand true (eq-itself (rules.name demand.requirement)))

pub demands_on-other : (rules : Rules ℕ ℕ ℕ ℕ) (listed : List Demand) (demand : Demand) (n : ℕ) → (n ≡ rules.name demand.requirement → ⊥) → demands_on rules n (listed ++ demand ∷ []) ≡ demands_on rules n listed
demands_on-other rules listed demand n d =
    filter-append (λ (a : Demand). rules.name a.requirement == n) listed (demand ∷ [])
    ∙ ap (λ xs. demands_on rules n listed ++ xs) (filter-one (λ (a : Demand). rules.name a.requirement == n) demand false (off-of (nat_eq (rules.name demand.requirement) n) (λ t. d (sym (eqb-true (rules.name demand.requirement) n t)))))
    ∙ append-nil (demands_on rules n listed)

filter-cond : {X : Type 0} (p : X → Bool) (b : Bool) (x y : X) (xs : List X) → p x ≡ b → Contains (cond b (x ∷ filter p xs) (filter p xs)) y → (Contains (filter p xs) y → Contains xs y × (p y ≡ true)) → Contains (x ∷ xs) y × (p y ≡ true)
filter-cond p true x y xs e i h = elim (Contains-cons_cases x (filter p xs) y i) [
  | inl f ↦ (subst (λ z. Contains (x ∷ xs) z) f (Contains-here x xs), subst (λ z. p z ≡ true) f e)
  | inr r ↦ let k : Contains xs y × (p y ≡ true) = h r in (Contains-there x xs y k.0, k.1)
]
filter-cond p false x y xs e i h = let k : Contains xs y × (p y ≡ true) = h i in (Contains-there x xs y k.0, k.1)

pub filter-from : {X : Type 0} (p : X → Bool) (xs : List X) (y : X) → Contains (filter p xs) y → Contains xs y × (p y ≡ true)
filter-from p [] y i = absurd (Contains-nil y i)
filter-from p (x ∷ xs) y i = filter-cond p (p x) x y xs refl i (filter-from p xs y)

filter-keep : {X : Type 0} (p : X → Bool) (b : Bool) (x y : X) (xs : List X) → p x ≡ b → p y ≡ true → (x ≡ y) ⊎ Contains (filter p xs) y → Contains (cond b (x ∷ filter p xs) (filter p xs)) y
filter-keep p true x y xs e t h = elim h [ inl f ↦ subst (λ z. Contains (x ∷ filter p xs) z) f (Contains-here x (filter p xs)) | inr r ↦ Contains-there x (filter p xs) y r ]
filter-keep p false x y xs e t h = elim h [ inl f ↦ absurd (let k : false ≡ true = sym e ∙ ap p f ∙ t in cc) | inr r ↦ r ]

pub filter-to : {X : Type 0} (p : X → Bool) (xs : List X) (y : X) → Contains xs y → p y ≡ true → Contains (filter p xs) y
filter-to p [] y i t = absurd (Contains-nil y i)
filter-to p (x ∷ xs) y i t = filter-keep p (p x) x y xs refl t (elim (Contains-cons_cases x xs y i) [ inl e ↦ inl e | inr r ↦ inr (filter-to p xs y r t) ])

-- a row has what is required on its name, and no more
pub row-from : (t : TableParts) (demands : Demands) (n : ℕ) (a : Demand) → AreRowed t demands → Contains (row_at demands.rows.items n) a → Contains demands.listed.items a × ((rules_of t).name a.requirement ≡ n)
row-from t demands n a h i =
    let k : Contains demands.listed.items a × (((rules_of t).name a.requirement == n) ≡ true) = filter-from (λ (b : Demand). (rules_of t).name b.requirement == n) demands.listed.items a (subst (λ xs. Contains xs a) (h.rows n) i) in
    (k.0, eqb-true ((rules_of t).name a.requirement) n k.1)

pub row-to : (t : TableParts) (demands : Demands) (a : Demand) → AreRowed t demands → Contains demands.listed.items a → Contains (row_at demands.rows.items ((rules_of t).name a.requirement)) a
row-to t demands a h i = subst (λ xs. Contains xs a) (sym (h.rows ((rules_of t).name a.requirement)))
    (filter-to (λ (b : Demand). (rules_of t).name b.requirement == (rules_of t).name a.requirement) demands.listed.items a i (eq-itself ((rules_of t).name a.requirement)))

-- ---- one more is required

pub rowed-push : (t : TableParts) (old new : Demands) (demand : Demand) → AreRowed t old → IsListed old.rows.items new.rows.items ((rules_of t).name demand.requirement) demand → demand.requirement < length t.requirements → new.listed.items ≡ old.listed.items ++ demand ∷ [] → AreRowed t new
rowed-push t old new demand h l k e = record {
  room = l.room ∙ h.room;
  known = λ a i. elim (Contains-push_cases old.listed.items demand a (subst (λ xs. Contains xs a) e i)) [
    | inl x ↦ h.known a x
    | inr y ↦ subst (λ (b : Demand). b.requirement < length t.requirements) y k
  ];
  rows = λ n. elim (nat_cases n ((rules_of t).name demand.requirement)) [
    | inl x ↦ subst (λ m. row_at new.rows.items m ≡ demands_on (rules_of t) m new.listed.items) (sym x)
        (l.own ∙ ap (λ xs. xs ++ demand ∷ []) (h.rows ((rules_of t).name demand.requirement)) ∙ sym (demands_on-own (rules_of t) old.listed.items demand) ∙ ap (demands_on (rules_of t) ((rules_of t).name demand.requirement)) (sym e))
    | inr d ↦ l.others n d ∙ h.rows n ∙ sym (demands_on-other (rules_of t) old.listed.items demand n d) ∙ ap (demands_on (rules_of t) n) (sym e)
  ];
}

-- and one less
pub rowed-pop : (t : TableParts) (old new : Demands) (demand : Demand) → AreRowed t old → old.listed.items ≡ new.listed.items ++ demand ∷ [] → length new.rows.items ≡ length old.rows.items → ((front : List Demand) → row_at old.rows.items ((rules_of t).name demand.requirement) ≡ front ++ demand ∷ [] → row_at new.rows.items ((rules_of t).name demand.requirement) ≡ front) → ((n : ℕ) → (n ≡ (rules_of t).name demand.requirement → ⊥) → row_at new.rows.items n ≡ row_at old.rows.items n) → AreRowed t new
rowed-pop t old new demand h e room own others = record {
  room = room ∙ h.room;
  known = λ a i. h.known a (subst (λ xs. Contains xs a) (sym e) (Contains-append_left new.listed.items (demand ∷ []) a i));
  rows = λ n. elim (nat_cases n ((rules_of t).name demand.requirement)) [
    | inl x ↦ subst (λ m. row_at new.rows.items m ≡ demands_on (rules_of t) m new.listed.items) (sym x)
        (own (demands_on (rules_of t) ((rules_of t).name demand.requirement) new.listed.items) (h.rows ((rules_of t).name demand.requirement) ∙ ap (demands_on (rules_of t) ((rules_of t).name demand.requirement)) e ∙ demands_on-own (rules_of t) new.listed.items demand))
    | inr d ↦ others n d ∙ h.rows n ∙ ap (demands_on (rules_of t) n) e ∙ demands_on-other (rules_of t) new.listed.items demand n d
  ];
}

filter-nil : {X : Type 0} (p : X → Bool) (xs : List X) → xs ≡ [] → filter p xs ≡ []
filter-nil p xs e = ap (filter p) e

pub rowed-none : (t : TableParts) (demands : Demands) → demands.listed.items ≡ [] → length demands.rows.items ≡ length t.candidates → ((n : ℕ) → row_at demands.rows.items n ≡ []) → AreRowed t demands
rowed-none t demands e room rows = record {
  room = room;
  known = λ a i. absurd (Contains-nil a (subst (λ xs. Contains xs a) e i));
  rows = λ n. rows n ∙ sym (filter-nil (λ (b : Demand). (rules_of t).name b.requirement == n) demands.listed.items e);
}

-- ---- names to look at

insert-case : (o : Ordering) (k x : ℕ) (xs : List ℕ) → nat_cmp k x ≡ o → (Contains (insert_key nat_cmp xs k) k) → ((m : ℕ) → Contains xs m → Contains (insert_key nat_cmp xs k) m) → Contains (match_ordering o (k ∷ x ∷ xs) (x ∷ xs) (x ∷ insert_key nat_cmp xs k)) k × ((m : ℕ) → Contains (x ∷ xs) m → Contains (match_ordering o (k ∷ x ∷ xs) (x ∷ xs) (x ∷ insert_key nat_cmp xs k)) m)
insert-case Less k x xs e h g = (Contains-here k (x ∷ xs), λ m i. Contains-there k (x ∷ xs) m i)
insert-case Equal k x xs e h g = (subst (λ m. Contains (x ∷ xs) m) (sym (nat-order.exact k x e)) (Contains-here x xs), λ m i. i)
insert-case Greater k x xs e h g = (
  Contains-there x (insert_key nat_cmp xs k) k h,
  λ m i. elim (Contains-cons_cases x xs m i) [
    | inl f ↦ subst (λ z. Contains (x ∷ insert_key nat_cmp xs k) z) f (Contains-here x (insert_key nat_cmp xs k))
    | inr r ↦ Contains-there x (insert_key nat_cmp xs k) m (g m r)
  ],
)

pub inserted : (ks : List ℕ) (k : ℕ) → Contains (insert_key nat_cmp ks k) k × ((m : ℕ) → Contains ks m → Contains (insert_key nat_cmp ks k) m)
inserted [] k = (Contains-here k [], λ m i. absurd (Contains-nil m i))
inserted (x ∷ xs) k = let r = inserted xs k in insert-case (nat_cmp k x) k x xs refl r.0 r.1

gt-itself : (o : Ordering) → Greater ≡ o → is_gt o ≡ false → ⊥
gt-itself o e h = let k : is_gt Greater ≡ false = ap is_gt e ∙ h in cc

pub le-by : (a b : ℕ) → IsLeBy nat_cmp a b → a ≤ b
le-by a b h = elim (split-nat b a) [
  | inl low ↦ absurd (gt-itself (nat_cmp a b) (nat_cmp_is a b Greater low) h)
  | inr high ↦ high
]

pub last-left : {X : Type 0} (xs front : List X) (x : X) → xs ≡ front ++ x ∷ [] → take (length xs - 1) xs ≡ front
last-left xs front x e =
    let l : length xs ≡ length front + 1 = ap length e ∙ length-append front (x ∷ []) in
    let k : length xs - 1 ≡ length front = omega arith in
    ap (λ n. take n xs) k ∙ ap (take (length front)) e ∙ take-front front (x ∷ []) (length front) (omega arith) ∙ take-whole front (length front) (omega arith)

take-take : {X : Type 0} (xs : List X) (a b : ℕ) → a ≤ b → take a (take b xs) ≡ take a xs
take-take [] zero zero l = refl
take-take [] zero (suc b) l = refl
take-take [] (suc a) zero l = refl
take-take [] (suc a) (suc b) l = refl
take-take (x ∷ xs) zero zero l = refl
take-take (x ∷ xs) zero (suc b) l = refl
take-take (x ∷ xs) (suc a) zero l = absurd (omega arith)
take-take (x ∷ xs) (suc a) (suc b) l = ap (λ ys. x ∷ ys) (take-take xs a b (omega arith))

-- one fewer of so many
pub take-fewer : {X : Type 0} (xs ys : List X) (k : ℕ) → ys ≡ take (length xs - k) xs → take (length ys - 1) ys ≡ take (length xs - (k + 1)) xs
take-fewer xs ys k e =
    let l : length ys ≡ length xs - k = ap length e ∙ length-take-le (length xs - k) xs (omega arith) in
    let m : length ys - 1 ≡ length xs - (k + 1) = omega arith in
    ap (λ n. take n ys) m ∙ ap (take (length xs - (k + 1))) e ∙ take-take xs (length xs - (k + 1)) (length xs - k) (omega arith)

pub demand-room : (t : TableParts) → in_range t ≡ true → (r : ℕ) → r < length t.requirements → (rules_of t).name r < length t.candidates
demand-room t known r l = name-known t known (requirement_at t r).node (nodes-known t known r l (requirement_at t r).node (Contains-here (requirement_at t r).node (requirement_at t r).more))

pub first-member : {X : Type 0} (xs : List X) (x : X) → Some x ≡ slice_get xs 0 → Contains xs x
first-member [] x e = absurd (cc)
first-member (y ∷ ys) x e = let k : y ≡ x = cc in subst (λ z. Contains (y ∷ ys) z) k (Contains-here y ys)

pub is-none : (o : Option (NodeChoice ℕ ℕ)) → is_some o ≡ false → o ≡ None
is-none None h = refl
is-none (Some c) h = absurd (cc)

pub is-some : (o : Option (NodeChoice ℕ ℕ)) → is_some o ≡ true → o ≡ None → ⊥
is-some None h e = cc
is-some (Some c) h e = cc

pub none-of : (o : Option ℕ) → is_some o ≡ false → o ≡ None
none-of None h = refl
none-of (Some n) h = absurd (cc)

least-at : (ks : List ℕ) (k : ℕ) → slice_get ks 0 ≡ Some k → (rest : List ℕ) × (ks ≡ k ∷ rest)
least-at [] k e = absurd (cc)
least-at (x ∷ xs) k e = let same : x ≡ k = cc in (xs, ap (λ y. y ∷ xs) same)

none-at : (ks : List ℕ) → (false ≡ true ↔ (0 < length ks)) → ks ≡ []
none-at [] h = refl
none-at (x ∷ xs) h = absurd (let k : false ≡ true = h.1 (omega arith) in cc)

-- the first of keys that ascend
pub least-key : (ks : List ℕ) (o : Option (Bor ℕ)) → (IsSome o ↔ (0 < length ks)) → IfSome o (λ k. slice_get ks 0 ≡ Some k.now) → IfSome o (λ k. All (IsLeBy nat_cmp k.now) ks) → MatchOption (option_copied {T = ℕ} o) (ks ≡ []) (λ name. (rest : List ℕ) × (ks ≡ name ∷ rest) × ((m : ℕ) → Contains ks m → name ≤ m))
least-key ks None v f a = none-at ks v
least-key ks (Some k) v f a = let r : (rest : List ℕ) × (ks ≡ k.now ∷ rest) = least-at ks k.now f in (r.0, r.1, λ m i. le-by k.now m (All-contains (IsLeBy nat_cmp k.now) ks m a i))

pub vec-size : {X : Type 0} (v : Vec X) → v.len ≡ length v.items
vec-size v = v.ok.0

-- what else is known of the names doesn't matter to the rows
pub rowed-same : (t : TableParts) (old new : Demands) → AreRowed t old → new.rows.items ≡ old.rows.items → new.listed.items ≡ old.listed.items → AreRowed t new
rowed-same t old new h rows listed = record {
  room = ap length rows ∙ h.room;
  known = λ a i. h.known a (subst (λ xs. Contains xs a) listed i);
  rows = λ n. ap (λ rs. row_at rs n) rows ∙ h.rows n ∙ ap (demands_on (rules_of t) n) (sym listed);
}
