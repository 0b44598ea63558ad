-- Lists of nodes that grow.
use Rattle.std.proofs.Common.{◌≡◌, ℕ, zero, suc, ◌+◌, ◌<◌, ◌⊎◌, inl, inr, Bool, List, [], ◌∷◌, ◌++◌, Contains, filter, length, get_or, map, take, ap, subst, sym, ◌∙◌, append_assoc, append-nil}
use Rattle.std.specs.List.{flat_map}
use Rattle.std.proofs.lemmas.List.{take_more}
use Rattle.std.proofs.lemmas.List.Concat.{flat_map-append}
use Rattle.std.proofs.lemmas.List.Elements.{Contains-append_left, Contains-append_right, Contains-append_cases, filter-append}
use Rattle.std.proofs.lemmas.List.{map-append}
use Rattle.pep508.specs.Requirement.{RequirementParts}
use Rattle.problems.specs.Rules.{nodes_of}
use Rattle.problems.specs.Tied.Growing.{Grows, nodes_asked}
use Rattle.problems.specs.Tied.Standing.{IsWith, Stands}
use Rattle.problems.specs.declared.node.Node.{Node}
use Rattle.lists.proofs.Members.{Contains-cons_cases, Contains-here, Contains-nil, Contains-there}

-- what stands at a place is there
pub Contains-standing : (nodes : List Node) (place : ℕ) (node : Node) → Stands nodes place node → Contains nodes node
Contains-standing [] place node stands = absurd cc
Contains-standing (x ∷ nodes) zero node stands = let e : x ≡ node = cc in subst (λ y. Contains (x ∷ nodes) y) e (Contains-here x nodes)
Contains-standing (x ∷ nodes) (suc place) node stands = Contains-there x nodes node (Contains-standing nodes place node stands)

pub Grows-none : (nodes : List Node) → Grows nodes nodes []
Grows-none nodes = record { more = []; extended = sym (append-nil nodes); added = λ node h. absurd (Contains-nil node h); only = λ node h. inl h }

pub Grows-then : (old mid new first second : List Node) → Grows old mid first → Grows mid new second → Grows old new (first ++ second)
Grows-then old mid new first second g h = record {
  more = g.more ++ h.more;
  extended = h.extended ∙ ap (λ nodes. nodes ++ h.more) g.extended ∙ append_assoc old g.more h.more;
  added = λ node wanted. elim (Contains-append_cases first second node wanted) [
    | inl a ↦ subst (λ nodes. Contains nodes node) (sym h.extended) (Contains-append_left mid h.more node (g.added node a))
    | inr b ↦ h.added node b
  ];
  only = λ node there. elim (h.only node there) [
    | inl a ↦ elim (g.only node a) [ inl before ↦ inl before | inr after ↦ inr (Contains-append_left first second node after) ]
    | inr b ↦ inr (Contains-append_right first second node b)
  ];
}

with-more : (old new : List Node) (node : Node) → IsWith node old new → (more : List Node) × (new ≡ old ++ more) × ((x : Node) → Contains new x → Contains old x ⊎ Contains (node ∷ []) x)
with-more old new node (inl there) = ([], there.1 ∙ sym (append-nil old), λ x h. inl (subst (λ nodes. Contains nodes x) there.1 h))
with-more old new node (inr apart) = (node ∷ [], apart.1, λ x h. Contains-append_cases old (node ∷ []) x (subst (λ nodes. Contains nodes x) apart.1 h))

-- one node that is put behind the others, unless it is there
pub Grows-one : (old new : List Node) (place : ℕ) (node : Node) → IsWith node old new → Stands new place node → Grows old new (node ∷ [])
Grows-one old new place node is stands =
    let grown = with-more old new node is in
    record {
      more = grown.0;
      extended = grown.1;
      added = λ x wanted. elim (Contains-cons_cases node [] x wanted) [
        | inl e ↦ subst (λ y. Contains new y) e (Contains-standing new place node stands)
        | inr none ↦ absurd (Contains-nil x none)
      ];
      only = grown.2;
    }

-- one more of the elements whose nodes are wanted
pub Grows-more : {A : Type 0} (f : A → List Node) (old mid new : List Node) (xs : List A) (place : ℕ) (x : A) → place < length xs → x ≡ get_or xs place x
    → Grows old mid (flat_map f (take place xs)) → Grows mid new (f x) → Grows old new (flat_map f (take (place + 1) xs))
Grows-more f old mid new xs place x within is g h =
    let next : flat_map f (take (place + 1) xs) ≡ flat_map f (take place xs) ++ f x =
    ap (flat_map f) (take_more xs place x within) ∙ flat_map-append f (take place xs) (get_or xs place x ∷ []) ∙ ap (λ nodes. flat_map f (take place xs) ++ nodes) (append-nil (f (get_or xs place x)) ∙ ap f (sym is)) in
    subst (Grows old new) (sym next) (Grows-then old mid new (flat_map f (take place xs)) (f x) g h)

-- one more element, whose node is wanted
pub Grows-more_map : {A : Type 0} (f : A → Node) (old mid new : List Node) (xs : List A) (place : ℕ) (x : A) → place < length xs → x ≡ get_or xs place x
    → Grows old mid (map f (take place xs)) → Grows mid new (f x ∷ []) → Grows old new (map f (take (place + 1) xs))
Grows-more_map f old mid new xs place x within is g h =
    let next : map f (take (place + 1) xs) ≡ map f (take place xs) ++ f x ∷ [] =
    ap (map f) (take_more xs place x within) ∙ map-append f (take place xs) (get_or xs place x ∷ []) ∙ ap (λ y. map f (take place xs) ++ f y ∷ []) (sym is) in
    subst (Grows old new) (sym next) (Grows-then old mid new (map f (take place xs)) (f x ∷ []) g h)

-- one more of what is lent, whose nodes are wanted
pub Grows-lent : {A : Type 0} (now : A → RequirementParts) (old mid new : List Node) (xs : List A) (place : ℕ) (x : A) → place < length xs → x ≡ get_or xs place x
    → Grows old mid (nodes_asked (map now (take place xs))) → Grows mid new (nodes_of (now x)) → Grows old new (nodes_asked (map now (take (place + 1) xs)))
Grows-lent now old mid new xs place x within is g h =
    let lent : map now (take (place + 1) xs) ≡ map now (take place xs) ++ now x ∷ [] =
    ap (map now) (take_more xs place x within) ∙ map-append now (take place xs) (get_or xs place x ∷ []) ∙ ap (λ y. map now (take place xs) ++ now y ∷ []) (sym is) in
    let next : nodes_asked (map now (take (place + 1) xs)) ≡ nodes_asked (map now (take place xs)) ++ nodes_of (now x) =
    ap nodes_asked lent ∙ flat_map-append nodes_of (map now (take place xs)) (now x ∷ []) ∙ ap (λ nodes. nodes_asked (map now (take place xs)) ++ nodes) (append-nil (nodes_of (now x))) in
    subst (Grows old new) (sym next) (Grows-then old mid new (nodes_asked (map now (take place xs))) (nodes_of (now x)) g h)

-- one more element that may pass a test
pub filter-next : {A : Type 0} (test : A → Bool) (mid new xs : List A) (place : ℕ) (x : A) → place < length xs → x ≡ get_or xs place x → mid ≡ filter test (take place xs) → new ≡ mid ++ filter test (x ∷ []) → new ≡ filter test (take (place + 1) xs)
filter-next test mid new xs place x within is before put =
    put ∙ ap (λ ys. ys ++ filter test (x ∷ [])) before ∙ ap (λ y. filter test (take place xs) ++ filter test (y ∷ [])) is
    ∙ sym (ap (filter test) (take_more xs place x within) ∙ filter-append test (take place xs) (get_or xs place x ∷ []))
