-- The walk through needed nodes.
use Rattle.std.proofs.Common.{◌≡◌, ℕ, ◌+◌, ◌<◌, ◌≤◌, inl, inr, Bool, List, [], ◌∷◌, ◌++◌, Option, Some, None, Contains, length, get_or, take, arith, refl, ap, subst, sym, ◌∙◌}
use Rattle.std.specs.BTreeMap.{is_at}
use Rattle.std.specs.Cmp.Lexicographic.{slice_cmp}
use Rattle.std.specs.Map.{lookup}
use Rattle.std.specs.Ordering.{nat_cmp}
use Rattle.std.specs.Str.{bytes_eq}
use Rattle.std.proofs.lemmas.List.{take-append-le, take_all, take_more}
use Rattle.std.proofs.lemmas.List.Elements.{Contains-append_left, Contains-append_right, Contains-append_cases, Contains-push_cases}
use Rattle.std.proofs.lemmas.Map.Text.{is_eq-slice_cmp}
use Rattle.pep440.specs.Version.{VersionParts}
use Rattle.pep508.specs.Requirement.{RequirementParts}
use Rattle.search.specs.Solutions.{Needed, by_dependency, by_line}
use Rattle.problems.specs.Problem.{ProblemParts}
use Rattle.problems.specs.Tied.Growing.{Grows, nodes_asked, nodes_linked}
use Rattle.problems.specs.Solutions.{AreNeeded, version_for}
use Rattle.problems.specs.Rules.{nodes_of, rules_of}
use Rattle.problems.specs.Tied.OwnNeeds.{own_rules, own_wants}
use Rattle.markers.specs.MarkerExtras.{OtherExtrasAreAsNone}
use Rattle.problems.proofs.OwnNeeds.{needed-own, own-wanted}
use Rattle.problems.specs.declared.node.Node.{Node}
use Rattle.lists.proofs.Members.{Contains-cons_cases, Contains-here, Contains-nil, Contains-there}

-- the walk through needed nodes, as far as the first `at` nodes have been followed
pub record IsClosing (given : ProblemParts) (chosen : List ℕ → Option VersionParts) (nodes : List Node) (at : ℕ) : Type 0 where
  pub sound : (node : Node) → Contains nodes node → Needed (rules_of given) chosen node
  pub lines : (node : Node) → Contains (nodes_asked given.active) node → Contains nodes node
  pub linked : (link node : Node) → Contains (take at nodes) link → Contains (nodes_linked given link (chosen link.name)) node → Contains nodes node

-- a look-up by bytes is the look-up of a map
pub lookup-get : {X : Type 0} (name : List ℕ) (entries : List (List ℕ × X)) → lookup (bytes_eq name) entries ≡ lookup (is_at (slice_cmp nat_cmp name)) entries
lookup-get name entries = ap (λ (t : List ℕ → Bool). lookup t entries) (λ i x. sym (is_eq-slice_cmp name x) i)

-- a node leads nowhere where its name has no version
pub linked-unchosen : (given : ProblemParts) (node : Node) (versions : List (List ℕ × VersionParts)) → lookup (is_at (slice_cmp nat_cmp node.name)) versions ≡ None → [] ≡ nodes_linked given node (version_for versions node.name)
linked-unchosen given node versions none = rw (lookup-get node.name versions, none) refl

-- else to what is needed by what is wanted there
pub linked-chosen : (given : ProblemParts) (node : Node) (versions : List (List ℕ × VersionParts)) (version : VersionParts) → lookup (is_at (slice_cmp nat_cmp node.name)) versions ≡ Some version
    → nodes_asked (own_wants given node version) ≡ nodes_linked given node (version_for versions node.name)
linked-chosen given node versions version some = rw (lookup-get node.name versions, some) refl

pub asked-from : (requirements : List RequirementParts) (wanted : RequirementParts) (node : Node) → Contains requirements wanted → Contains (nodes_of wanted) node → Contains (nodes_asked requirements) node
asked-from [] wanted node h i = absurd (Contains-nil wanted h)
asked-from (first ∷ others) wanted node h i = elim (Contains-cons_cases first others wanted h) [
  | inl e ↦ Contains-append_left (nodes_of first) (nodes_asked others) node (subst (λ w. Contains (nodes_of w) node) (sym e) i)
  | inr k ↦ Contains-append_right (nodes_of first) (nodes_asked others) node (asked-from others wanted node k i)
]

asked-to : (requirements : List RequirementParts) (node : Node) → Contains (nodes_asked requirements) node → (wanted : RequirementParts) × Contains requirements wanted × Contains (nodes_of wanted) node
asked-to [] node h = absurd (Contains-nil node h)
asked-to (first ∷ others) node h = elim (Contains-append_cases (nodes_of first) (nodes_asked others) node h) [
  | inl a ↦ (first, Contains-here first others, a)
  | inr b ↦ let k : (wanted : RequirementParts) × Contains others wanted × Contains (nodes_of wanted) node = asked-to others node b in (k.0, Contains-there first others k.0 k.1, k.2)
]

pub closing-start : (given : ProblemParts) (chosen : List ℕ → Option VersionParts) (nodes : List Node) → Grows [] nodes (nodes_asked given.active) → IsClosing given chosen nodes 0
closing-start given chosen nodes g = record {
  sound = λ node h. elim (g.only node h) [
    | inl a ↦ absurd (Contains-nil node a)
    | inr b ↦ let k : (wanted : RequirementParts) × Contains given.active wanted × Contains (nodes_of wanted) node = asked-to given.active node b in by_line k.0 node k.1 k.2
  ];
  lines = g.added;
  linked = λ link node h i. absurd (Contains-nil link h);
}

linked-needed : (given : ProblemParts) (chosen : List ℕ → Option VersionParts) (link node : Node) (o : Option VersionParts) → chosen link.name ≡ o → Needed (rules_of given) chosen link → Contains (nodes_linked given link o) node → Needed (rules_of given) chosen node
linked-needed given chosen link node None e n h = absurd (Contains-nil node h)
linked-needed given chosen link node (Some version) e n h =
    let k : (wanted : RequirementParts) × Contains (own_wants given link version) wanted × Contains (nodes_of wanted) node = asked-to (own_wants given link version) node h in
    by_dependency link version k.0 node n e (own-wanted given link version k.0 k.1) k.2

-- one node more is followed
pub closing-step : (given : ProblemParts) (chosen : List ℕ → Option VersionParts) (nodes new : List Node) (at : ℕ) (link : Node) → IsClosing given chosen nodes at → at < length nodes → link ≡ get_or nodes at link
    → Grows nodes new (nodes_linked given link (chosen link.name)) → IsClosing given chosen new (at + 1)
closing-step given chosen nodes new at link c within is g =
    let front : take (at + 1) new ≡ take at nodes ++ link ∷ [] =
    ap (take (at + 1)) g.extended ∙ take-append-le (at + 1) nodes g.more (omega arith) ∙ take_more nodes at link within ∙ ap (λ x. take at nodes ++ x ∷ []) (sym is) in
    record {
      sound = λ node h. elim (g.only node h) [
        | inl a ↦ c.sound node a
        | inr b ↦ linked-needed given chosen link node (chosen link.name) refl (c.sound link (at, within, sym is)) b
      ];
      lines = λ node h. subst (λ xs. Contains xs node) (sym g.extended) (Contains-append_left nodes g.more node (c.lines node h));
      linked = λ other node h i.
          elim (Contains-push_cases (take at nodes) link other (subst (λ xs. Contains xs other) front h)) [
            | inl a ↦ subst (λ xs. Contains xs node) (sym g.extended) (Contains-append_left nodes g.more node (c.linked other node a i))
            | inr b ↦ g.added node (subst (λ x. Contains (nodes_linked given x (chosen x.name)) node) (sym b) i)
          ];
    }

closing-whole : (given : ProblemParts) (chosen : List ℕ → Option VersionParts) (nodes : List Node) (at : ℕ) → IsClosing given chosen nodes at → length nodes ≤ at → (node : Node) → Needed (own_rules given) chosen node → Contains nodes node
closing-whole given chosen nodes at c past _ (by_line wanted node h i) = c.lines node (asked-from given.active wanted node h i)
closing-whole given chosen nodes at c past _ (by_dependency link version wanted node k e w i) =
    let there : Contains nodes link = closing-whole given chosen nodes at c past link k in
    c.linked link node (subst (λ xs. Contains xs link) (sym (take_all at nodes past)) there)
    (subst (λ o. Contains (nodes_linked given link o) node) (sym e) (asked-from (own_wants given link version) wanted node w i))

-- all nodes have been followed
pub closing-end : OtherExtrasAreAsNone → (given : ProblemParts) (chosen : List ℕ → Option VersionParts) (nodes : List Node) (at : ℕ) → IsClosing given chosen nodes at → length nodes ≤ at → AreNeeded given chosen nodes
closing-end law given chosen nodes at c past = record { sound = c.sound; whole = λ node needed. closing-whole given chosen nodes at c past node (needed-own law given chosen node needed) }
