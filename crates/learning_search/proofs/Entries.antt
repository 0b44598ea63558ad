-- What a map from nodes to places says of the choices that it holds.
use Rattle.std.proofs.Common.{ℕ, List, [], ◌∷◌, ◌++◌, ◌≡◌, inl, inr, Contains, map, refl, sym, ap, subst, Some, None, Option, Bool, true, false, cond, is_some, nat_eq}
use Rattle.std.proofs.lemmas.Bool.{eqb-true}
use Rattle.std.specs.Map.{lookup}
use Rattle.indexmap.specs.IndexMap.{insert_entry}
use Rattle.search.proofs.PlacesEquality.{eq-itself, off-of}
use Rattle.lists.proofs.Members.{Contains-here, Contains-there, Contains-cons_cases, Contains-nil}
use Rattle.search.specs.declared.conflict.NodeChoice.{NodeChoice}
use Rattle.learning_search.specs.declared.assignment.Assignment.{Assignment}
use Rattle.learning_search.specs.Tied.Gathering.{choice_at, decision}
use Rattle.learning_search.specs.Tied.Learned.{decision_of, decisions_of, entries_of, IsFree}

found-cond : (b : Bool) (node v : ℕ) (e : ℕ × ℕ) (es : List (ℕ × ℕ)) (rest : Option ℕ) → nat_eq node e.0 ≡ b → cond b (Some e.1) rest ≡ Some v → (rest ≡ Some v → Contains (map choice_at es) (decision node v)) → Contains (map choice_at (e ∷ es)) (decision node v)
found-cond true node v e es rest t h k =
    let n : node ≡ e.0 = eqb-true node e.0 t in
    let same : e.1 ≡ v = cc in
    subst (λ (c : NodeChoice ℕ ℕ). Contains (map choice_at (e ∷ es)) c) (λ i. decision (sym n i) (same i)) (Contains-here (choice_at e) (map choice_at es))
found-cond false node v e es rest t h k = Contains-there (choice_at e) (map choice_at es) (decision node v) (k h)

pub lookup-found : (es : List (ℕ × ℕ)) (node v : ℕ) → lookup (nat_eq node) es ≡ Some v → Contains (map choice_at es) (decision node v)
lookup-found [] node v h = absurd (cc)
lookup-found (e ∷ es) node v h = found-cond (nat_eq node e.0) node v e es (lookup (nat_eq node) es) refl h (lookup-found es node v)

none-cond : (b : Bool) (v : ℕ) (rest : Option ℕ) → cond b (Some v) rest ≡ None → (b ≡ false) × (rest ≡ None)
none-cond true v rest h = absurd (cc)
none-cond false v rest h = (refl, h)

pub lookup-none : (es : List (ℕ × ℕ)) (node : ℕ) → lookup (nat_eq node) es ≡ None → IsFree (map choice_at es) node
lookup-none [] node h v i = Contains-nil (decision node v) i
lookup-none (e ∷ es) node h v i =
    let k : (nat_eq node e.0 ≡ false) × (lookup (nat_eq node) es ≡ None) = none-cond (nat_eq node e.0) e.1 (lookup (nat_eq node) es) h in
    elim (Contains-cons_cases (choice_at e) (map choice_at es) (decision node v) i) [
      | inl same ↦ absurd (let t : nat_eq node node ≡ false = subst (λ n. nat_eq node n ≡ false) (ap (λ (c : NodeChoice ℕ ℕ). c.node) same) k.0 in let u = eq-itself node in cc)
      | inr r ↦ lookup-none es node k.1 v r
    ]

some-of : (o : Option ℕ) → is_some o ≡ true → (v : ℕ) × (o ≡ Some v)
some-of None h = absurd (cc)
some-of (Some v) h = (v, refl)

none-of : (o : Option ℕ) → is_some o ≡ false → o ≡ None
none-of None h = refl
none-of (Some v) h = absurd (cc)

pub lookup-some : (es : List (ℕ × ℕ)) (node : ℕ) → is_some (lookup (nat_eq node) es) ≡ true → (v : ℕ) × Contains (map choice_at es) (decision node v)
lookup-some es node h = let k : (v : ℕ) × (lookup (nat_eq node) es ≡ Some v) = some-of (lookup (nat_eq node) es) h in (k.0, lookup-found es node k.0 k.1)

pub lookup-free : (es : List (ℕ × ℕ)) (node : ℕ) → is_some (lookup (nat_eq node) es) ≡ false → IsFree (map choice_at es) node
lookup-free es node h = lookup-none es node (none-of (lookup (nat_eq node) es) h)

insert-cond : (b : Bool) (node place : ℕ) (e : ℕ × ℕ) (es rest : List (ℕ × ℕ)) → b ≡ false → rest ≡ es ++ (node, place) ∷ [] → cond b ((e.0, place) ∷ es) (e ∷ rest) ≡ e ∷ es ++ (node, place) ∷ []
insert-cond true node place e es rest h k = absurd (cc)
insert-cond false node place e es rest h k = ap (λ xs. e ∷ xs) k

-- a node with no choice goes last
pub insert-free : (es : List (ℕ × ℕ)) (node place : ℕ) → IsFree (map choice_at es) node → insert_entry nat_eq es node place ≡ es ++ (node, place) ∷ []
insert-free [] node place h = refl
insert-free (e ∷ es) node place h =
    let off : nat_eq node e.0 ≡ false = off-of (nat_eq node e.0) (λ t. h e.1 (subst (λ (n : ℕ). Contains (map choice_at (e ∷ es)) (decision n e.1)) (sym (eqb-true node e.0 t)) (Contains-here (choice_at e) (map choice_at es)))) in
    insert-cond (nat_eq node e.0) node place e es (insert_entry nat_eq es node place) off (insert-free es node place (λ v i. h v (Contains-there (choice_at e) (map choice_at es) (decision node v) i)))

-- ---- the entries of what is assigned

pub entries-decisions : (hs : List Assignment) → map choice_at (entries_of hs) ≡ decisions_of hs
entries-decisions [] = refl
entries-decisions (h ∷ hs) = ap (λ cs. decision_of h ∷ cs) (entries-decisions hs)
