-- What it is for a table to be in range.
use Rattle.std.proofs.Common.{ℕ, zero, suc, List, [], ◌∷◌, ◌≡◌, ◌<◌, ◌&&◌, ◌==◌, inl, inr, Contains, length, get_or, refl, sym, ap, subst, arith, Bool, true, false, nat_lt}
use Rattle.std.specs.List.{list_all}
use Rattle.std.proofs.lemmas.Bool.{ltb-true, eqb-true}
use Rattle.lists.proofs.Members.{Contains-here, Contains-there, Contains-cons_cases, Contains-nil}
use Rattle.search.specs.declared.parts.TableRequirement.{TableRequirement}
use Rattle.search.specs.Ranges.{EachBelow}
use Rattle.search.specs.Table.{TableParts, all_below, is_on, requirement_in_range, in_range, requirement_at, name_of, name_at, required_nodes, wants_at}

pub and-both : (a b : Bool) → (a && b) ≡ true → (a ≡ true) × (b ≡ true)
and-both true b h = (refl, h)
and-both false b h = absurd (cc)

pub all-at : {X : Type 0} (p : X → Bool) (xs : List X) (x : X) → list_all p xs ≡ true → Contains xs x → p x ≡ true
all-at p [] x h i = absurd (Contains-nil x i)
all-at p (y ∷ ys) x h i =
    let k : (p y ≡ true) × (list_all p ys ≡ true) = and-both (p y) (list_all p ys) h in
    elim (Contains-cons_cases y ys x i) [ inl e ↦ subst (λ z. p z ≡ true) e k.0 | inr r ↦ all-at p ys x k.1 r ]

-- a test that a default passes holds at each place
pub all-or : {X : Type 0} (p : X → Bool) (xs : List X) (k : ℕ) (d : X) → list_all p xs ≡ true → p d ≡ true → p (get_or xs k d) ≡ true
all-or p [] k d h e = e
all-or p (x ∷ xs) zero d h e = (and-both (p x) (list_all p xs) h).0
all-or p (x ∷ xs) (suc k) d h e = all-or p xs k d (and-both (p x) (list_all p xs) h).1 e

pub lt-true : (a b : ℕ) → nat_lt a b ≡ true → a < b
lt-true a b h = ltb-true a b h

pub eq-true : (a b : ℕ) → (a == b) ≡ true → a ≡ b
eq-true a b h = eqb-true a b h

pub each-below : (bound : ℕ) (ns : List ℕ) → all_below bound ns ≡ true → EachBelow bound ns
each-below bound ns h n i = lt-true n bound (all-at (λ m. nat_lt m bound) ns n h i)

pub record IsInRange (t : TableParts) : Type 0 where
  pub nodes : all_below (length t.candidates) t.nodes ≡ true
  pub requirements : list_all (requirement_in_range t.nodes) t.requirements ≡ true
  pub wants : list_all (list_all (all_below (length t.requirements))) t.wants ≡ true
  pub lines : all_below (length t.requirements) t.lines ≡ true

pub ranges : (t : TableParts) → in_range t ≡ true → IsInRange t
ranges t h =
    let a = and-both (all_below (length t.candidates) t.nodes) _ h in
    let b = and-both (list_all (requirement_in_range t.nodes) t.requirements) _ a.1 in
    let c = and-both (list_all (list_all (all_below (length t.requirements))) t.wants) (all_below (length t.requirements) t.lines) b.1 in
    record { nodes = a.0; requirements = b.0; wants = c.0; lines = c.1 }

pub wants-known : (t : TableParts) → in_range t ≡ true → (node place : ℕ) → EachBelow (length t.requirements) (wants_at t node place)
wants-known t h node place = each-below (length t.requirements) (wants_at t node place)
    (all-or (all_below (length t.requirements)) (get_or t.wants node []) place []
    (all-or (list_all (all_below (length t.requirements))) t.wants node [] (ranges t h).wants refl) refl)

pub lines-known : (t : TableParts) → in_range t ≡ true → EachBelow (length t.requirements) t.lines
lines-known t h = each-below (length t.requirements) t.lines (ranges t h).lines

pub at-member : {X : Type 0} (xs : List X) (k : ℕ) (d : X) → k < length xs → Contains xs (get_or xs k d)
at-member [] k d l = absurd (omega arith)
at-member (x ∷ xs) zero d l = Contains-here x xs
at-member (x ∷ xs) (suc k) d l = Contains-there x xs (get_or xs k d) (at-member xs k d (omega arith))

pub name-known : (t : TableParts) → in_range t ≡ true → (node : ℕ) → node < length t.nodes → name_of t node < length t.candidates
name-known t h node l = each-below (length t.candidates) t.nodes (ranges t h).nodes (name_of t node) (at-member t.nodes node 0 l)

on-both : (nodes : List ℕ) (name node : ℕ) → is_on nodes name node ≡ true → (node < length nodes) × (name_at nodes node ≡ name)
on-both nodes name node h =
    let k : (nat_lt node (length nodes) ≡ true) × ((name_at nodes node == name) ≡ true) = and-both (nat_lt node (length nodes)) (name_at nodes node == name) h in
    (lt-true node (length nodes) k.0, eq-true (name_at nodes node) name k.1)

requirement-known : (nodes : List ℕ) (r : TableRequirement) → requirement_in_range nodes r ≡ true → (x : ℕ) → Contains (required_nodes r) x → (x < length nodes) × (name_at nodes x ≡ name_at nodes r.node)
requirement-known nodes r h x i =
    let k : (nat_lt r.node (length nodes) ≡ true) × (list_all (is_on nodes (name_at nodes r.node)) r.more ≡ true) = and-both (nat_lt r.node (length nodes)) (list_all (is_on nodes (name_at nodes r.node)) r.more) h in
    elim (Contains-cons_cases r.node r.more x i) [
      | inl e ↦ (subst (λ y. y < length nodes) e (lt-true r.node (length nodes) k.0), ap (name_at nodes) (sym e))
      | inr j ↦ on-both nodes (name_at nodes r.node) x (all-at (is_on nodes (name_at nodes r.node)) r.more x k.1 j)
    ]

pub nodes-known : (t : TableParts) → in_range t ≡ true → (r : ℕ) → r < length t.requirements → EachBelow (length t.nodes) (required_nodes (requirement_at t r))
nodes-known t h r l x i = (requirement-known t.nodes (requirement_at t r) (all-at (requirement_in_range t.nodes) t.requirements (requirement_at t r) (ranges t h).requirements (at-member t.requirements r _ l)) x i).0

default-own : (nodes : List ℕ) (rs : List TableRequirement) (r : ℕ) (d : TableRequirement) → d.more ≡ [] → list_all (requirement_in_range nodes) rs ≡ true → (x : ℕ) → Contains (required_nodes (get_or rs r d)) x → name_at nodes x ≡ name_at nodes (get_or rs r d).node
default-own nodes [] r d e h x i = elim (Contains-cons_cases d.node d.more x i) [
  | inl f ↦ ap (name_at nodes) (sym f)
  | inr j ↦ absurd (Contains-nil x (subst (λ ys. Contains ys x) e j))
]
default-own nodes (q ∷ rs) zero d e h x i = (requirement-known nodes q (and-both (requirement_in_range nodes q) (list_all (requirement_in_range nodes) rs) h).0 x i).1
default-own nodes (q ∷ rs) (suc r) d e h x i = default-own nodes rs r d e (and-both (requirement_in_range nodes q) (list_all (requirement_in_range nodes) rs) h).1 x i

-- the nodes of a requirement are on its name, whatever its number
pub nodes-own : (t : TableParts) → in_range t ≡ true → (r x : ℕ) → Contains (required_nodes (requirement_at t r)) x → name_of t x ≡ name_of t (requirement_at t r).node
nodes-own t h r x i = default-own t.nodes t.requirements r _ refl (ranges t h).requirements x i
