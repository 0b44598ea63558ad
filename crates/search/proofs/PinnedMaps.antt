-- Maps made of pins, needed nodes and solutions, over any rules.
use Rattle.std.proofs.Common.{List, [], ◌∷◌, ◌++◌, ◌≡◌, ◌⊎◌, inl, inr, Contains, refl, sym, ◌∙◌, ap, Some, None, Option, Bool, true, false, cond, Ordering}
use Rattle.std.specs.Ordering.{is_eq}
use Rattle.std.specs.Cmp.{Equal-is}
use Rattle.std.proofs.lemmas.Cmp.{tied_itself}
use Rattle.lists.proofs.Members.{Contains-here, Contains-there}
use Rattle.search.specs.FirstWalk.{IsComplete}
use Rattle.search.specs.Rules.{Rules, IsOrder, IsLawful}
use Rattle.search.specs.Solutions.{Pin, Needed, by_line, by_dependency, IsNeededName, IsMet, Solution, version_pinned, IsNext, Has}

-- ---- maps made of choices

pub is_eq-self : {N : Type 0} (compare : N → N → Ordering) → IsOrder compare → (a : N) → is_eq (compare a a) ≡ true
is_eq-self compare order a = ap is_eq (tied_itself order.total a)

pub is_eq-same : {N : Type 0} (compare : N → N → Ordering) → IsOrder compare → (a b : N) → is_eq (compare a b) ≡ true → a ≡ b
is_eq-same compare order a b h = order.exact a b ((Equal-is (compare a b)).0 h)

cond_append : {V : Type 0} (b : Bool) (v : V) (x y : Option V) (z : Option V) → ((w : V) → x ≡ Some w → y ≡ Some w) → (w : V) → cond b (Some v) x ≡ Some w → cond b (Some v) y ≡ Some w
cond_append true v x y z h w e = e
cond_append false v x y z h w e = h w e

pub version_pinned-append_some : {N V : Type 0} (compare : N → N → Ordering) (xs ys : List (Pin N V)) (n : N) (w : V) → version_pinned compare xs n ≡ Some w → version_pinned compare (xs ++ ys) n ≡ Some w
version_pinned-append_some compare [] ys n w e = absurd (cc)
version_pinned-append_some compare (c ∷ cs) ys n w e = cond_append (is_eq (compare c.name n)) c.version (version_pinned compare cs n) (version_pinned compare (cs ++ ys) n) None (λ v h. version_pinned-append_some compare cs ys n v h) w e

cond_none : {V : Type 0} (b : Bool) (v : V) (x y z : Option V) → (x ≡ None → y ≡ z) → cond b (Some v) x ≡ None → cond b (Some v) y ≡ z
cond_none true v x y z h e = absurd (cc)
cond_none false v x y z h e = h e

pub version_pinned-append_none : {N V : Type 0} (compare : N → N → Ordering) (xs ys : List (Pin N V)) (n : N) → version_pinned compare xs n ≡ None → version_pinned compare (xs ++ ys) n ≡ version_pinned compare ys n
version_pinned-append_none compare [] ys n e = refl
version_pinned-append_none compare (c ∷ cs) ys n e = cond_none (is_eq (compare c.name n)) c.version (version_pinned compare cs n) (version_pinned compare (cs ++ ys) n) (version_pinned compare ys n) (λ h. version_pinned-append_none compare cs ys n h) e

pub version_pinned-last : {N V : Type 0} (compare : N → N → Ordering) (order : IsOrder compare) (xs : List (Pin N V)) (c : Pin N V) → version_pinned compare xs c.name ≡ None → version_pinned compare (xs ++ c ∷ []) c.name ≡ Some c.version
version_pinned-last compare order xs c e = version_pinned-append_none compare xs (c ∷ []) c.name e ∙ ap (λ b. cond b (Some c.version) None) (is_eq-self compare order c.name)

cond_push : {V : Type 0} (b : Bool) (v w : V) → cond b (Some v) None ≡ Some w → (b ≡ true) × (v ≡ w)
cond_push true v w e = (refl, cc)
cond_push false v w e = absurd (cc)

pub option_cases : {V : Type 0} (o : Option V) → (o ≡ None) ⊎ ((v : V) × (o ≡ Some v))
option_cases None = inl refl
option_cases (Some v) = inr (v, refl)

-- what a pushed choice adds
pub version_pinned-push_cases : {N V : Type 0} (compare : N → N → Ordering) (order : IsOrder compare) (xs : List (Pin N V)) (c : Pin N V) (n : N) (w : V) → version_pinned compare (xs ++ c ∷ []) n ≡ Some w → (version_pinned compare xs n ≡ Some w) ⊎ ((c.name ≡ n) × (c.version ≡ w))
version_pinned-push_cases compare order xs c n w e = elim (option_cases (version_pinned compare xs n)) [
  | inl none ↦
      let k : (is_eq (compare c.name n) ≡ true) × (c.version ≡ w) = cond_push (is_eq (compare c.name n)) c.version w (sym (version_pinned-append_none compare xs (c ∷ []) n none) ∙ e) in
      inr (is_eq-same compare order c.name n k.0, k.1)
  | inr some ↦ inl (some.1 ∙ sym (version_pinned-append_some compare xs (c ∷ []) n some.0 some.1) ∙ e)
]

cond_some : {V : Type 0} (b : Bool) (v w : V) (x : Option V) → cond b (Some v) x ≡ Some w → ((b ≡ true) × (v ≡ w)) ⊎ (x ≡ Some w)
cond_some true v w x e = inl (refl, cc)
cond_some false v w x e = inr e

pub version_pinned-cons_cases : {N V : Type 0} (compare : N → N → Ordering) → IsOrder compare → (c : Pin N V) (cs : List (Pin N V)) (n : N) (w : V) → version_pinned compare (c ∷ cs) n ≡ Some w → ((c.name ≡ n) × (c.version ≡ w)) ⊎ (version_pinned compare cs n ≡ Some w)
version_pinned-cons_cases compare order c cs n w e = elim (cond_some (is_eq (compare c.name n)) c.version w (version_pinned compare cs n) e) [
  | inl a ↦ inl (is_eq-same compare order c.name n a.0, a.1)
  | inr b ↦ inr b
]

-- a name that has a version has a pin
pub pin-member : {N V : Type 0} (compare : N → N → Ordering) → IsOrder compare → (ps : List (Pin N V)) (n : N) (v : V) → version_pinned compare ps n ≡ Some v → (p : Pin N V) × Contains ps p × (p.name ≡ n)
pin-member compare order [] n v e = absurd (cc)
pin-member {N} {V} compare order (p ∷ ps) n v e = elim (version_pinned-cons_cases compare order p ps n v e) [
  | inl a ↦ (p, Contains-here p ps, a.0)
  | inr b ↦ let k : (q : Pin N V) × Contains ps q × (q.name ≡ n) = pin-member compare order ps n v b in (k.0, Contains-there p ps k.0 k.1, k.2)
]

pub Has-front : {N X V R : Type 0} (rules : Rules N X V R) (s : N → Option V) (xs ys : List (Pin N V)) → Has rules s (xs ++ ys) → Has rules s xs
Has-front rules s xs ys h n v e = h n v (version_pinned-append_some rules.compare xs ys n v e)

pub Has-push : {N X V R : Type 0} (rules : Rules N X V R) (order : IsOrder rules.compare) (s : N → Option V) (xs : List (Pin N V)) (c : Pin N V) → Has rules s xs → s c.name ≡ Some c.version → Has rules s (xs ++ c ∷ [])
Has-push rules order s xs c h e n v k = elim (version_pinned-push_cases rules.compare order xs c n v k) [
  | inl a ↦ h n v a
  | inr b ↦ sym (ap s b.0) ∙ e ∙ ap (λ w. Some w) b.1
]

-- ---- needed nodes

pub Needed-more : {N X V R : Type 0} (rules : Rules N X V R) (p q : N → Option V) → ((n : N) (v : V) → p n ≡ Some v → q n ≡ Some v) → (node : X) → Needed rules p node → Needed rules q node
Needed-more rules p q h _ (by_line r node l i) = by_line r node l i
Needed-more rules p q h _ (by_dependency link v r node k e w i) = by_dependency link v r node (Needed-more rules p q h link k) (h (rules.on link) v e) w i

-- ---- solutions

-- a needed node's name is in a solution
pub Needed-in_solution : {N X V R : Type 0} (rules : Rules N X V R) (law : IsLawful rules) (t : N → Option V) → Solution rules t → (node : X) → Needed rules t node → (v : V) × (t (rules.on node) ≡ Some v)
Needed-in_solution {N} {X} {V} rules law t s _ (by_line r node l i) =
    let m : IsMet rules t r = s.lines_met r l in
    (m.0, ap t (law.own r node i) ∙ m.1)
Needed-in_solution {N} {X} {V} rules law t s _ (by_dependency link v r node k e w i) =
    let m : IsMet rules t r = s.dependencies_met link v r k e w in
    (m.0, ap t (law.own r node i) ∙ m.1)

-- a solution that has what is taken has a candidate of the next name
pub next-in_solution : {N X V R : Type 0} (rules : Rules N X V R) (law : IsLawful rules) (t : N → Option V) (taken : List (Pin N V)) (n : N) → Solution rules t → Has rules t taken → IsNext rules taken n → (w : V) × (t n ≡ Some w) × Contains (rules.candidates n) w
next-in_solution {N} {X} {V} rules law t taken n s h next =
    let node : X = next.needed.0 in
    let k : Needed rules t node = Needed-more rules (version_pinned rules.compare taken) t h node next.needed.1 in
    let v : (v : V) × (t (rules.on node) ≡ Some v) = Needed-in_solution rules law t s node k in
    let e : t n ≡ Some v.0 = sym (ap t next.needed.2) ∙ v.1 in
    (v.0, e, s.released n v.0 e)

pub some-inj : {V : Type 0} (v w : V) → Some v ≡ Some w → v ≡ w
some-inj v w e = cc

-- ---- what is met under all that is taken is a solution

-- a node that a solution needs is needed under complete choices that it has
pub Needed-less : {N X V R : Type 0} (rules : Rules N X V R) (law : IsLawful rules) (p t : N → Option V) → IsComplete rules p → ((n : N) (v : V) → p n ≡ Some v → t n ≡ Some v) → (node : X) → Needed rules t node → Needed rules p node × ((v : V) × (p (rules.on node) ≡ Some v))
Needed-less {N} {X} {V} rules law p t c h _ (by_line r node l i) =
    let m : IsMet rules p r = c.lines_met r l in
    (by_line r node l i, (m.0, ap p (law.own r node i) ∙ m.1))
Needed-less {N} {X} {V} rules law p t c h _ (by_dependency link v r node k e w i) =
    let below : Needed rules p link × ((u : V) × (p (rules.on link) ≡ Some u)) = Needed-less rules law p t c h link k in
    let same : below.1.0 ≡ v = some-inj below.1.0 v (sym (h (rules.on link) below.1.0 below.1.1) ∙ e) in
    let at : p (rules.on link) ≡ Some v = below.1.1 ∙ ap (λ x. Some x) same in
    let m : IsMet rules p r = c.dependencies_met link v r below.0 at w in
    (by_dependency link v r node below.0 at w i, (m.0, ap p (law.own r node i) ∙ m.1))

-- so the solution is those choices
pub complete-same : {N X V R : Type 0} (rules : Rules N X V R) (law : IsLawful rules) (p t : N → Option V) → IsComplete rules p → ((n : N) (v : V) → p n ≡ Some v → t n ≡ Some v) → Solution rules t → (n : N) → t n ≡ p n
complete-same {N} {X} {V} rules law p t c h s n = elim (option_cases (t n)) [
  | inl none ↦ elim (option_cases (p n)) [
    | inl nothing ↦ none ∙ sym nothing
    | inr some ↦ absurd (let e = h n some.0 some.1 in cc)
  ]
  | inr some ↦
      let k : IsNeededName rules t n = s.each_needed n some.0 some.1 in
      let low : Needed rules p k.0 × ((v : V) × (p (rules.on k.0) ≡ Some v)) = Needed-less rules law p t c h k.0 k.1 in
      let at : p n ≡ Some low.1.0 = sym (ap p k.2) ∙ low.1.1 in
      h n low.1.0 at ∙ sym at
]
