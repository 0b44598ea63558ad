-- Lemmas on sets of nodes that grow, and on the walk through needed nodes.
use Rattle.std.proofs.Common.{ℕ, zero, suc, List, [], ◌∷◌, ◌++◌, ◌≡◌, ◌<◌, ◌≤◌, ◌+◌, inl, inr, Contains, length, get_or, take, refl, sym, ◌∙◌, ap, subst, arith, Some, None, Option, append_assoc, append-nil, add-one}
use Rattle.std.proofs.lemmas.List.Elements.{Contains-append_left, Contains-append_right, Contains-append_cases}
use Rattle.lists.proofs.Members.{Contains-here, Contains-there, Contains-cons_cases, Contains-nil, Contains-take_suc, Contains-take_zero, take-whole, get_or-any}
use Rattle.search.proofs.Marks.{Grows-none}
use Rattle.search.specs.Tied.Nodes.{Nodes, Grows, IsGrown, nodes_required, nodes_linked, IsClosing}
use Rattle.search.specs.Rules.{Rules}
use Rattle.search.specs.Solutions.{Needed, by_line, by_dependency}
use Rattle.search.specs.Tied.Search.{AreNeeded}

Grows-then : (old mid new : List ℕ) (first second : List ℕ) → Grows old mid first → Grows mid new second → Grows old new (first ++ second)
Grows-then old mid new first second g h = record {
  more = g.more ++ h.more;
  extended = h.extended ∙ ap (λ xs. xs ++ h.more) g.extended ∙ append_assoc old g.more h.more;
  added = λ node k. elim (Contains-append_cases first second node k) [
    | inl a ↦ subst (λ xs. Contains xs node) (sym h.extended) (Contains-append_left mid h.more node (g.added node a))
    | inr b ↦ h.added node b
  ];
  only = λ node k. elim (h.only node k) [
    | inl a ↦ elim (g.only node a) [ inl old_one ↦ inl old_one | inr new_one ↦ inr (Contains-append_left first second node new_one) ]
    | inr b ↦ inr (Contains-append_right first second node b)
  ];
}

pub grown-none : (old : Nodes) → IsGrown old old []
grown-none old = record { grows = Grows-none old.members; room = refl }

pub grown-then : (old mid new : Nodes) (first second : List ℕ) → IsGrown old mid first → IsGrown mid new second → IsGrown old new (first ++ second)
grown-then old mid new first second g h = record {
  grows = Grows-then old.members mid.members new.members first second g.grows h.grows;
  room = h.room ∙ g.room;
}

pub take-more : {X : Type 0} (xs : List X) (i : ℕ) (x : X) → i < length xs → x ≡ get_or xs i x → take (suc i) xs ≡ take i xs ++ x ∷ []
take-more [] i x l e = absurd (omega arith)
take-more (y ∷ ys) zero x l e = ap (λ z. z ∷ []) (sym e)
take-more (y ∷ ys) (suc i) x l e = ap (λ zs. y ∷ zs) (take-more ys i x (omega arith) e)

-- one node more
pub grown-node : (old mid new : Nodes) (xs : List ℕ) (i : ℕ) → i < length xs → IsGrown old mid (take i xs) → IsGrown mid new (get_or xs i 0 ∷ []) → IsGrown old new (take (i + 1) xs)
grown-node old mid new xs i l g h =
    rw add-one (subst (λ ns. IsGrown old new ns) (sym (take-more xs i (get_or xs i 0) l (get_or-any xs i 0 _ l))) (grown-then old mid new (take i xs) (get_or xs i 0 ∷ []) g h))

nodes_required-append : (rules : Rules ℕ ℕ ℕ ℕ) (rs ss : List ℕ) → nodes_required rules (rs ++ ss) ≡ nodes_required rules rs ++ nodes_required rules ss
nodes_required-append rules [] ss = refl
nodes_required-append rules (r ∷ rs) ss = ap (λ zs. rules.nodes r ++ zs) (nodes_required-append rules rs ss) ∙ sym (append_assoc (rules.nodes r) (nodes_required rules rs) (nodes_required rules ss))

-- one requirement more
pub grown-required : (rules : Rules ℕ ℕ ℕ ℕ) (old mid new : Nodes) (rs : List ℕ) (i : ℕ) → i < length rs → IsGrown old mid (nodes_required rules (take i rs)) → IsGrown mid new (rules.nodes (get_or rs i 0)) → IsGrown old new (nodes_required rules (take (i + 1) rs))
grown-required rules old mid new rs i l g h =
    let r : ℕ = get_or rs i 0 in
    let k : nodes_required rules (take (suc i) rs) ≡ nodes_required rules (take i rs) ++ rules.nodes r = ap (nodes_required rules) (take-more rs i r l (get_or-any rs i 0 r l)) ∙ nodes_required-append rules (take i rs) (r ∷ []) ∙ ap (λ zs. nodes_required rules (take i rs) ++ zs) (append-nil (rules.nodes r)) in
    rw add-one (subst (λ ns. IsGrown old new ns) (sym k) (grown-then old mid new (nodes_required rules (take i rs)) (rules.nodes r) g h))

pub required-from : (rules : Rules ℕ ℕ ℕ ℕ) (rs : List ℕ) (r node : ℕ) → Contains rs r → Contains (rules.nodes r) node → Contains (nodes_required rules rs) node
required-from rules [] r node h i = absurd (Contains-nil r h)
required-from rules (s ∷ rs) r node h i = elim (Contains-cons_cases s rs r h) [
  | inl e ↦ Contains-append_left (rules.nodes s) (nodes_required rules rs) node (subst (λ q. Contains (rules.nodes q) node) (sym e) i)
  | inr k ↦ Contains-append_right (rules.nodes s) (nodes_required rules rs) node (required-from rules rs r node k i)
]

pub required-to : (rules : Rules ℕ ℕ ℕ ℕ) (rs : List ℕ) (node : ℕ) → Contains (nodes_required rules rs) node → (r : ℕ) × Contains rs r × Contains (rules.nodes r) node
required-to rules [] node h = absurd (Contains-nil node h)
required-to rules (r ∷ rs) node h = elim (Contains-append_cases (rules.nodes r) (nodes_required rules rs) node h) [
  | inl a ↦ (r, Contains-here r rs, a)
  | inr b ↦ let k : (q : ℕ) × Contains rs q × Contains (rules.nodes q) node = required-to rules rs node b in (k.0, Contains-there r rs k.0 k.1, k.2)
]

-- ---- the walk through needed nodes

pub closing-start : (rules : Rules ℕ ℕ ℕ ℕ) (chosen : ℕ → Option ℕ) (nodes : List ℕ) → Grows [] nodes (nodes_required rules rules.lines) → IsClosing rules chosen nodes 0
closing-start rules chosen nodes g = record {
  sound = λ node h. elim (g.only node h) [
    | inl a ↦ absurd (Contains-nil node a)
    | inr b ↦ let k : (r : ℕ) × Contains rules.lines r × Contains (rules.nodes r) node = required-to rules rules.lines node b in by_line k.0 node k.1 k.2
  ];
  lines = g.added;
  linked = λ link node h i. absurd (Contains-take_zero nodes link h);
}

pub linked-needed : (rules : Rules ℕ ℕ ℕ ℕ) (chosen : ℕ → Option ℕ) (link node : ℕ) (o : Option ℕ) → chosen (rules.on link) ≡ o → Needed rules chosen link → Contains (nodes_linked rules link o) node → Needed rules chosen node
linked-needed rules chosen link node None e n h = absurd (Contains-nil node h)
linked-needed rules chosen link node (Some v) e n h =
    let k : (r : ℕ) × Contains (rules.wants link v) r × Contains (rules.nodes r) node = required-to rules (rules.wants link v) node h in
    by_dependency link v k.0 node n e k.1 k.2

pub take-front : {X : Type 0} (xs ys : List X) (k : ℕ) → k ≤ length xs → take k (xs ++ ys) ≡ take k xs
take-front [] [] zero l = refl
take-front [] (y ∷ ys) zero l = refl
take-front [] ys (suc k) l = absurd (omega arith)
take-front (x ∷ xs) ys zero l = refl
take-front (x ∷ xs) ys (suc k) l = ap (λ zs. x ∷ zs) (take-front xs ys k (omega arith))

pub closing-step : (rules : Rules ℕ ℕ ℕ ℕ) (chosen : ℕ → Option ℕ) (nodes new : List ℕ) (at link : ℕ) → IsClosing rules chosen nodes at → at < length nodes → link ≡ get_or nodes at link → Grows nodes new (nodes_linked rules link (chosen (rules.on link))) → IsClosing rules chosen new (at + 1)
closing-step rules chosen nodes new at link c l is g = record {
  sound = λ node h. elim (g.only node h) [
    | inl a ↦ c.sound node a
    | inr b ↦ linked-needed rules chosen link node (chosen (rules.on link)) refl (c.sound link (at, l, sym is)) b
  ];
  lines = λ node h. subst (λ xs. Contains xs node) (sym g.extended) (Contains-append_left nodes g.more node (c.lines node h));
  linked = λ other node h i.
      let k : Contains (take (suc at) nodes) other = subst (λ xs. Contains xs other) (ap (take (suc at)) g.extended ∙ take-front nodes g.more (suc at) l) (rw add-one at h) in
      elim (Contains-take_suc nodes at link other l k) [
        | inl a ↦ subst (λ xs. Contains xs node) (sym g.extended) (Contains-append_left nodes g.more node (c.linked other node a i))
        | inr b ↦ g.added node (subst (λ n. Contains (nodes_linked rules n (chosen (rules.on n))) node) (sym (is ∙ b)) i)
      ];
}

closing-whole : (rules : Rules ℕ ℕ ℕ ℕ) (chosen : ℕ → Option ℕ) (nodes : List ℕ) (at : ℕ) → IsClosing rules chosen nodes at → length nodes ≤ at → (node : ℕ) → Needed rules chosen node → Contains nodes node
closing-whole rules chosen nodes at c l _ (by_line r node h i) = c.lines node (required-from rules rules.lines r node h i)
closing-whole rules chosen nodes at c l _ (by_dependency link v r node k e w i) =
    let m : Contains nodes link = closing-whole rules chosen nodes at c l link k in
    c.linked link node (subst (λ xs. Contains xs link) (sym (take-whole nodes at l)) m)
    (subst (λ o. Contains (nodes_linked rules link o) node) (sym e) (required-from rules (rules.wants link v) r node w i))

pub closing-end : (rules : Rules ℕ ℕ ℕ ℕ) (chosen : ℕ → Option ℕ) (nodes : List ℕ) (at : ℕ) → IsClosing rules chosen nodes at → length nodes ≤ at → AreNeeded rules chosen nodes
closing-end rules chosen nodes at c l = record { sound = c.sound; whole = closing-whole rules chosen nodes at c l }
