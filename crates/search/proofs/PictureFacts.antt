-- Maps over the numbers of a table, and maps over what they stand for.
use Rattle.std.proofs.Common.{ℕ, ◌≡◌, ◌<◌, Contains, length, map, refl, sym, ◌∙◌, ap, subst, arith, Some, None, Option, true}
use Rattle.std.proofs.lemmas.Cmp.{tied_itself}
use Rattle.search.proofs.Least.{nat-order}
use Rattle.lists.proofs.Members.{Contains-here, Contains-map, Contains-map_of}
use Rattle.search.proofs.Ranges.{lines-known, wants-known, nodes-known, name-known}
use Rattle.search.proofs.PinnedMaps.{some-inj}
use Rattle.search.proofs.WhatIsLeft.{candidates-named}
use Rattle.search.specs.Picture.{Picture, IsPicture, name_required}
use Rattle.search.specs.Rules.{Rules, IsOrder}
use Rattle.search.specs.Solutions.{Needed, by_line, by_dependency, IsNeededName, IsMet, Solution}
use Rattle.search.specs.Table.{TableParts, rules_of, requirement_at, name_of, required_nodes, wants_at, candidates_of, in_range}

-- what is at a place, if there is a place
abbrev pub image : {V : Type 0} → (ℕ → V) → Option ℕ → Option V
image f None = None
image f (Some p) = Some (f p)

pub image-some : {V : Type 0} (f : ℕ → V) (o : Option ℕ) (v : V) → image f o ≡ Some v → (p : ℕ) × (o ≡ Some p) × (f p ≡ v)
image-some f None v e = absurd (cc)
image-some f (Some p) v e = (p, refl, some-inj (f p) v e)

pub image-none : {V : Type 0} (f : ℕ → V) (o : Option ℕ) → image f o ≡ None → o ≡ None
image-none f None e = refl
image-none f (Some p) e = absurd (cc)

-- the second map is at each name what the first is at its number
pub record IsAlike {N X V R : Type 0} (t : TableParts) (picture : Picture N X V R) (s : ℕ → Option ℕ) (S : N → Option V) : Type 0 where
  pub at : (n : ℕ) → n < length t.candidates → S (picture.name n) ≡ image (picture.version n) (s n)
  pub released : (n p : ℕ) → s n ≡ Some p → Contains (candidates_of t n) p

-- each name of the map is that of some number
abbrev pub AreNamed : {N X V R : Type 0} → TableParts → Picture N X V R → (N → Option V) → Type 0
AreNamed {N} {X} {V} t picture S = (m : N) (v : V) → S m ≡ Some v → (n : ℕ) × (n < length t.candidates) × (picture.name n ≡ m)

pub candidate-known : (t : TableParts) (n p : ℕ) → Contains (candidates_of t n) p → n < length t.candidates
candidate-known t n p i = candidates-named t.candidates n (let l = i.1 in omega arith)

pub picture-lines : {N X V R : Type 0} (t : TableParts) (picture : Picture N X V R) (rules : Rules N X V R) → IsPicture t picture rules → (r : ℕ) → Contains t.lines r → Contains rules.lines (picture.requirement r)
picture-lines t picture rules h r i = subst (λ rs. Contains rs (picture.requirement r)) (sym h.lines) (Contains-map_of picture.requirement t.lines r i)

pub picture-nodes : {N X V R : Type 0} (t : TableParts) (picture : Picture N X V R) (rules : Rules N X V R) → IsPicture t picture rules → (r node : ℕ) → r < length t.requirements → Contains (required_nodes (requirement_at t r)) node → Contains (rules.nodes (picture.requirement r)) (picture.node node)
picture-nodes t picture rules h r node l i = subst (λ ns. Contains ns (picture.node node)) (sym (h.nodes r l)) (Contains-map_of picture.node (required_nodes (requirement_at t r)) node i)

-- a needed node of the table stands for a needed node
pub needed-up : {N X V R : Type 0} (t : TableParts) (picture : Picture N X V R) (rules : Rules N X V R) → in_range t ≡ true → IsPicture t picture rules → (s : ℕ → Option ℕ) (S : N → Option V) → IsAlike t picture s S → (node : ℕ) → Needed (rules_of t) s node → (node < length t.nodes) × Needed rules S (picture.node node)
needed-up t picture rules known h s S a _ (by_line r node l i) =
    let k : r < length t.requirements = lines-known t known r l in
    (nodes-known t known r k node i, by_line (picture.requirement r) (picture.node node) (picture-lines t picture rules h r l) (picture-nodes t picture rules h r node k i))
needed-up t picture rules known h s S a _ (by_dependency link v r node n e w i) =
    let below : (link < length t.nodes) × Needed rules S (picture.node link) = needed-up t picture rules known h s S a link n in
    let k : r < length t.requirements = wants-known t known link v r w in (
      nodes-known t known r k node i,
      by_dependency (picture.node link) (picture.version (name_of t link) v) (picture.requirement r) (picture.node node) below.1
          (ap S (h.on link below.0) ∙ a.at (name_of t link) (name-known t known link below.0) ∙ ap (image (picture.version (name_of t link))) e)
          (subst (λ rs. Contains rs (picture.requirement r)) (sym (h.wants link v below.0 (a.released (name_of t link) v e))) (Contains-map_of picture.requirement (wants_at t link v) r w))
          (picture-nodes t picture rules h r node k i),
    )

-- a needed node, and the number that stands for it
abbrev pub IsStoodFor : {N X V R : Type 0} → TableParts → Picture N X V R → (ℕ → Option ℕ) → X → Type 0
IsStoodFor t picture s node = (x : ℕ) × (x < length t.nodes) × (picture.node x ≡ node) × Needed (rules_of t) s x

node-down : {N X V R : Type 0} (t : TableParts) (picture : Picture N X V R) (rules : Rules N X V R) → IsPicture t picture rules → (r : ℕ) (q : R) (node : X) → r < length t.requirements → picture.requirement r ≡ q → Contains (rules.nodes q) node → (x : ℕ) × Contains (required_nodes (requirement_at t r)) x × (picture.node x ≡ node)
node-down t picture rules h r q node l e i = Contains-map picture.node (required_nodes (requirement_at t r)) node (subst (λ ns. Contains ns node) (ap rules.nodes (sym e) ∙ h.nodes r l) i)

-- what the table has at a node that is stood for
pub record IsChosenAt {N X V R : Type 0} (t : TableParts) (picture : Picture N X V R) (s : ℕ → Option ℕ) (x : ℕ) (v : V) : Type 0 where
  pub place : ℕ
  pub chosen : s (name_of t x) ≡ Some place
  pub version : picture.version (name_of t x) place ≡ v

chosen-down : {N X V R : Type 0} (t : TableParts) (picture : Picture N X V R) (rules : Rules N X V R) → in_range t ≡ true → IsPicture t picture rules → (s : ℕ → Option ℕ) (S : N → Option V) → IsAlike t picture s S → (x : ℕ) (node : X) (v : V) → x < length t.nodes → picture.node x ≡ node → S (rules.on node) ≡ Some v → IsChosenAt t picture s x v
chosen-down t picture rules known h s S a x node v l e f =
    let at : image (picture.version (name_of t x)) (s (name_of t x)) ≡ Some v = sym (a.at (name_of t x) (name-known t known x l)) ∙ sym (ap S (h.on x l)) ∙ ap (λ y. S (rules.on y)) e ∙ f in
    let p : (p : ℕ) × (s (name_of t x) ≡ Some p) × (picture.version (name_of t x) p ≡ v) = image-some (picture.version (name_of t x)) (s (name_of t x)) v at in
    record { place = p.0; chosen = p.1; version = p.2 }

wanted-down : {N X V R : Type 0} (t : TableParts) (picture : Picture N X V R) (rules : Rules N X V R) → IsPicture t picture rules → (s : ℕ → Option ℕ) (S : N → Option V) → IsAlike t picture s S → (x : ℕ) (node : X) (v : V) (q : R) → x < length t.nodes → picture.node x ≡ node → (c : IsChosenAt t picture s x v) → Contains (rules.wants node v) q → (r : ℕ) × Contains (wants_at t x c.place) r × (picture.requirement r ≡ q)
wanted-down t picture rules h s S a x node v q l e c w =
    Contains-map picture.requirement (wants_at t x c.place) q
    (subst (λ rs. Contains rs q) (ap (λ y. rules.wants y v) (sym e) ∙ ap (rules.wants (picture.node x)) (sym c.version) ∙ h.wants x c.place l (a.released (name_of t x) c.place c.chosen)) w)

-- and a needed node is stood for by one of the table
pub needed-down : {N X V R : Type 0} (t : TableParts) (picture : Picture N X V R) (rules : Rules N X V R) → in_range t ≡ true → IsPicture t picture rules → (s : ℕ → Option ℕ) (S : N → Option V) → IsAlike t picture s S → (node : X) → Needed rules S node → IsStoodFor t picture s node
needed-down t picture rules known h s S a _ (by_line q node l i) =
    let r : (r : ℕ) × Contains t.lines r × (picture.requirement r ≡ q) = Contains-map picture.requirement t.lines q (subst (λ rs. Contains rs q) h.lines l) in
    let k : r.0 < length t.requirements = lines-known t known r.0 r.1 in
    let x : (x : ℕ) × Contains (required_nodes (requirement_at t r.0)) x × (picture.node x ≡ node) = node-down t picture rules h r.0 q node k r.2 i in
    (x.0, nodes-known t known r.0 k x.0 x.1, x.2, by_line r.0 x.0 r.1 x.1)
needed-down t picture rules known h s S a _ (by_dependency link v q node n e w i) =
    let y : IsStoodFor t picture s link = needed-down t picture rules known h s S a link n in
    let c : IsChosenAt t picture s y.0 v = chosen-down t picture rules known h s S a y.0 link v y.1 y.2 e in
    let r : (r : ℕ) × Contains (wants_at t y.0 c.place) r × (picture.requirement r ≡ q) = wanted-down t picture rules h s S a y.0 link v q y.1 y.2 c w in
    let k : r.0 < length t.requirements = wants-known t known y.0 c.place r.0 r.1 in
    let x : (x : ℕ) × Contains (required_nodes (requirement_at t r.0)) x × (picture.node x ≡ node) = node-down t picture rules h r.0 q node k r.2 i in
    (x.0, nodes-known t known r.0 k x.0 x.1, x.2, by_dependency y.0 c.place r.0 x.0 y.3 c.chosen r.1 x.1)

required-known : (t : TableParts) → in_range t ≡ true → (r : ℕ) → r < length t.requirements → name_required t r < length t.candidates
required-known t known r l = name-known t known (requirement_at t r).node (nodes-known t known r l _ (Contains-here (requirement_at t r).node (requirement_at t r).more))

pub met-up : {N X V R : Type 0} (t : TableParts) (picture : Picture N X V R) (rules : Rules N X V R) → in_range t ≡ true → IsPicture t picture rules → (s : ℕ → Option ℕ) (S : N → Option V) → IsAlike t picture s S → (r : ℕ) → r < length t.requirements → IsMet (rules_of t) s r → IsMet rules S (picture.requirement r)
met-up t picture rules known h s S a r l m = (
  picture.version (name_required t r) m.0,
  ap S (h.required r l) ∙ a.at (name_required t r) (required-known t known r l) ∙ ap (image (picture.version (name_required t r))) m.1,
  h.admits r m.0 l (a.released (name_required t r) m.0 m.1) ∙ m.2,
)

pub met-down : {N X V R : Type 0} (t : TableParts) (picture : Picture N X V R) (rules : Rules N X V R) → in_range t ≡ true → IsPicture t picture rules → (s : ℕ → Option ℕ) (S : N → Option V) → IsAlike t picture s S → (r : ℕ) → r < length t.requirements → IsMet rules S (picture.requirement r) → IsMet (rules_of t) s r
met-down t picture rules known h s S a r l m =
    let at : image (picture.version (name_required t r)) (s (name_required t r)) ≡ Some m.0 = sym (a.at (name_required t r) (required-known t known r l)) ∙ sym (ap S (h.required r l)) ∙ m.1 in
    let p : (p : ℕ) × (s (name_required t r) ≡ Some p) × (picture.version (name_required t r) p ≡ m.0) = image-some (picture.version (name_required t r)) (s (name_required t r)) m.0 at in
    (p.0, p.1, sym (h.admits r p.0 l (a.released (name_required t r) p.0 p.1)) ∙ ap (rules.admits (picture.requirement r)) p.2 ∙ m.2)

-- a name of the table's order is the name of one number
pub name-same : {N X V R : Type 0} (t : TableParts) (picture : Picture N X V R) (rules : Rules N X V R) → IsPicture t picture rules → IsOrder rules.compare → (n m : ℕ) → n < length t.candidates → m < length t.candidates → picture.name n ≡ picture.name m → n ≡ m
name-same t picture rules h order n m k l e = nat-order.exact n m (sym (h.order n m k l) ∙ ap (λ x. rules.compare x (picture.name m)) e ∙ tied_itself order.total (picture.name m))

-- ---- solutions

pub solution-up : {N X V R : Type 0} (t : TableParts) (picture : Picture N X V R) (rules : Rules N X V R) → in_range t ≡ true → IsPicture t picture rules → (s : ℕ → Option ℕ) (S : N → Option V) → IsAlike t picture s S → AreNamed t picture S → Solution (rules_of t) s → Solution rules S
solution-up {N} {X} {V} {R} t picture rules known h s S a named sol = record {
  released = λ m v e.
      let n : (n : ℕ) × (n < length t.candidates) × (picture.name n ≡ m) = named m v e in
      let p : (p : ℕ) × (s n.0 ≡ Some p) × (picture.version n.0 p ≡ v) = image-some (picture.version n.0) (s n.0) v (sym (a.at n.0 n.1) ∙ ap S n.2 ∙ e) in
      subst (λ x. Contains (rules.candidates x) v) n.2 (subst (λ vs. Contains vs v) (sym (h.candidates n.0 n.1))
      (subst (λ w. Contains (map (picture.version n.0) (candidates_of t n.0)) w) p.2 (Contains-map_of (picture.version n.0) (candidates_of t n.0) p.0 (a.released n.0 p.0 p.1))));
  lines_met = λ q l.
      let r : (r : ℕ) × Contains t.lines r × (picture.requirement r ≡ q) = Contains-map picture.requirement t.lines q (subst (λ rs. Contains rs q) h.lines l) in
      subst (λ (x : R). IsMet rules S x) r.2 (met-up t picture rules known h s S a r.0 (lines-known t known r.0 r.1) (sol.lines_met r.0 r.1));
  dependencies_met = λ node v q n e w.
      let y : IsStoodFor t picture s node = needed-down t picture rules known h s S a node n in
      let c : IsChosenAt t picture s y.0 v = chosen-down t picture rules known h s S a y.0 node v y.1 y.2 e in
      let r : (r : ℕ) × Contains (wants_at t y.0 c.place) r × (picture.requirement r ≡ q) = wanted-down t picture rules h s S a y.0 node v q y.1 y.2 c w in
      subst (λ (x : R). IsMet rules S x) r.2 (met-up t picture rules known h s S a r.0 (wants-known t known y.0 c.place r.0 r.1) (sol.dependencies_met y.0 c.place r.0 y.3 c.chosen r.1));
  each_needed = λ m v e.
      let n : (n : ℕ) × (n < length t.candidates) × (picture.name n ≡ m) = named m v e in
      let p : (p : ℕ) × (s n.0 ≡ Some p) × (picture.version n.0 p ≡ v) = image-some (picture.version n.0) (s n.0) v (sym (a.at n.0 n.1) ∙ ap S n.2 ∙ e) in
      let x : IsNeededName (rules_of t) s n.0 = sol.each_needed n.0 p.0 p.1 in
      let up : (x.0 < length t.nodes) × Needed rules S (picture.node x.0) = needed-up t picture rules known h s S a x.0 x.1 in
      (picture.node x.0, up.1, h.on x.0 up.0 ∙ ap picture.name x.2 ∙ n.2);
}

pub solution-down : {N X V R : Type 0} (t : TableParts) (picture : Picture N X V R) (rules : Rules N X V R) → in_range t ≡ true → IsPicture t picture rules → IsOrder rules.compare → (s : ℕ → Option ℕ) (S : N → Option V) → IsAlike t picture s S → Solution rules S → Solution (rules_of t) s
solution-down t picture rules known h order s S a sol = record {
  released = a.released;
  lines_met = λ r l. met-down t picture rules known h s S a r (lines-known t known r l) (sol.lines_met (picture.requirement r) (picture-lines t picture rules h r l));
  dependencies_met = λ x p r n e w.
      let up : (x < length t.nodes) × Needed rules S (picture.node x) = needed-up t picture rules known h s S a x n in
      met-down t picture rules known h s S a r (wants-known t known x p r w)
      (sol.dependencies_met (picture.node x) (picture.version (name_of t x) p) (picture.requirement r) up.1
      (ap S (h.on x up.0) ∙ a.at (name_of t x) (name-known t known x up.0) ∙ ap (image (picture.version (name_of t x))) e)
      (subst (λ rs. Contains rs (picture.requirement r)) (sym (h.wants x p up.0 (a.released (name_of t x) p e))) (Contains-map_of picture.requirement (wants_at t x p) r w)));
  each_needed = λ n p e.
      let l : n < length t.candidates = candidate-known t n p (a.released n p e) in
      let k : IsNeededName rules S (picture.name n) = sol.each_needed (picture.name n) (picture.version n p) (a.at n l ∙ ap (image (picture.version n)) e) in
      let x : IsStoodFor t picture s k.0 = needed-down t picture rules known h s S a k.0 k.1 in
      let same : picture.name (name_of t x.0) ≡ picture.name n = sym (h.on x.0 x.1) ∙ ap rules.on x.2 ∙ k.2 in
      (x.0, x.3, name-same t picture rules h order (name_of t x.0) n (name-known t known x.0 x.1) l same);
}
