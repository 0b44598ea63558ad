-- A refutation is a set refutation, where each choice stands for the set of its version alone.
use Rattle.std.proofs.Common.{List, [], ◌∷◌, ◌++◌, ◌≡◌, ◌⊎◌, inl, inr, Contains, sym, ◌∙◌, ap, subst, Bool, false}
use Rattle.lists.proofs.Members.{map-append, Contains-here, Contains-cons_cases, Contains-map, Contains-map_of, Contains-nil}
use Rattle.search.specs.declared.conflict.NodeChoice.{NodeChoice}
use Rattle.search.specs.declared.term.Term.{Term}
use Rattle.search.specs.Conflicts.{IsSameChoice, LineRefuses, NeedsNode, Completes, NoneLeft, Follows, EachFollows, IsRefutation}
use Rattle.search.specs.Rules.{Rules}
use Rattle.search.specs.SetConflicts.{HasVersion, LineRefusesSet, PairClashes, SetsClash, BindsWithin, CompletesSet, SetNeedsNode, NoCandidateLeft, SetFollows, EachSetFollows, IsSetRefutation}
use Rattle.search.specs.SetsOfChoices.{term_of, terms_of, as_sets}

-- what a version is, each of the list of it alone is
one-alone : {V : Type 0} (P : V → Type 0) (v : V) → P v → (w : V) → Contains (v ∷ []) w → P w
one-alone P v p w i = elim (Contains-cons_cases v [] w i) [
  | inl e ↦ subst P e p
  | inr r ↦ absurd (Contains-nil w r)
]

line-of_sets : {N X V R : Type 0} (rules : Rules N X V R) (conflict : List (NodeChoice X V)) → LineRefuses rules conflict → LineRefusesSet rules (terms_of conflict)
line-of_sets rules conflict f = record {
  term = term_of f.choice;
  there = Contains-map_of term_of conflict f.choice f.there;
  line = f.line;
  active = f.active;
  named = f.named;
  refused = one-alone (λ v. rules.admits f.line v ≡ false) f.choice.version f.refused;
}

-- two choices that clash are two sets that do
pair-of_sets : {N X V R : Type 0} (rules : Rules N X V R) (same : V → V → Bool) (conflict : List (NodeChoice X V)) (one other : NodeChoice X V) → Contains conflict one → Contains conflict other → PairClashes rules same one.node one.version other.node other.version → SetsClash rules same (terms_of conflict)
pair-of_sets rules same conflict one other there there_too clash = record {
  one = term_of one;
  other = term_of other;
  there = Contains-map_of term_of conflict one there;
  there_too = Contains-map_of term_of conflict other there_too;
  clash = λ v w i j. one-alone (λ x. PairClashes rules same one.node x other.node w) one.version
      (one-alone (λ y. PairClashes rules same one.node one.version other.node y) other.version clash w j)
      v i;
}

-- what a member is one with
member-of_sets : {X V : Type 0} (same : V → V → Bool) (conflict : List (NodeChoice X V)) (choice member : NodeChoice X V)
    → ((c : NodeChoice X V) × Contains conflict c × IsSameChoice same member c) ⊎ IsSameChoice same member choice
    → BindsWithin same (terms_of conflict) (term_of member) ⊎ ((member.node ≡ choice.node) × HasVersion same (member.version ∷ []) choice.version)
member-of_sets same conflict choice member f = elim f [
  | inl a ↦ inl (
    term_of a.0,
    Contains-map_of term_of conflict a.0 a.1,
    sym a.2.nodes,
    one-alone (λ v. HasVersion same (member.version ∷ []) v) a.0.version (member.version, Contains-here member.version [], a.2.versions),
  )
  | inr b ↦ inr (b.nodes, (member.version, Contains-here member.version [], b.versions))
]

completes-of_sets : {X V : Type 0} (same : V → V → Bool) (earlier : List (List (NodeChoice X V))) (conflict : List (NodeChoice X V)) (choice : NodeChoice X V) → Completes same earlier conflict choice → CompletesSet same (as_sets earlier) (terms_of conflict) choice.node choice.version
completes-of_sets {X} {V} same earlier conflict choice f = (
  terms_of f.0,
  Contains-map_of terms_of earlier f.0 f.1,
  λ t i.
      let m : (m : NodeChoice X V) × Contains f.0 m × (term_of m ≡ t) = Contains-map term_of f.0 t i in
      subst (λ (x : Term X V). BindsWithin same (terms_of conflict) x ⊎ ((x.node ≡ choice.node) × HasVersion same x.versions choice.version)) m.2
      (member-of_sets same conflict choice m.0 (f.2 m.0 m.1)),
)

needs-of_sets : {N X V R : Type 0} (rules : Rules N X V R) (conflict : List (NodeChoice X V)) (node : X) → NeedsNode rules conflict node → SetNeedsNode rules (terms_of conflict) node
needs-of_sets {N} {X} {V} {R} rules conflict node needs = elim needs [
  | inl a ↦ inl a
  | inr b ↦ inr (
    term_of b.0,
    Contains-map_of term_of conflict b.0 b.2,
    one-alone (λ v. (wanted : R) × Contains (rules.wants b.0.node v) wanted × Contains (rules.nodes wanted) node) b.0.version (b.1, b.3, b.4),
  )
]

none-of_sets : {N X V R : Type 0} (rules : Rules N X V R) (same : V → V → Bool) (earlier : List (List (NodeChoice X V))) (conflict : List (NodeChoice X V)) → NoneLeft rules same earlier conflict → NoCandidateLeft rules same (as_sets earlier) (terms_of conflict)
none-of_sets rules same earlier conflict f = record {
  node = f.node;
  needs = needs-of_sets rules conflict f.node f.needs;
  each = λ v i. completes-of_sets same earlier conflict (record { node = f.node; version = v }) (f.each v i);
}

SetFollows-of_sets : {N X V R : Type 0} (rules : Rules N X V R) (same : V → V → Bool) (earlier : List (List (NodeChoice X V))) (conflict : List (NodeChoice X V)) → Follows rules same earlier conflict → SetFollows rules same (as_sets earlier) (terms_of conflict)
SetFollows-of_sets rules same earlier conflict f = elim f [
  | inl b ↦ inl (line-of_sets rules conflict b)
  | inr (inl b) ↦ inr (inl (pair-of_sets rules same conflict b.one b.other b.there b.there_too (inl (b.wanted, b.counts, b.named, b.refused))))
  | inr (inr (inl b)) ↦ inr (inl (pair-of_sets rules same conflict b.one b.other b.there b.there_too (inr (inr (b.named, b.differ)))))
  | inr (inr (inr b)) ↦ inr (inr (inr (none-of_sets rules same earlier conflict b)))
]

pub EachSetFollows-of_sets : {N X V R : Type 0} (rules : Rules N X V R) (same : V → V → Bool) (earlier conflicts : List (List (NodeChoice X V))) → EachFollows rules same earlier conflicts → EachSetFollows rules same (as_sets earlier) (as_sets conflicts)
EachSetFollows-of_sets rules same earlier [] f = tt
EachSetFollows-of_sets rules same earlier (c ∷ cs) f = (
  SetFollows-of_sets rules same earlier c f.0,
  subst (λ before. EachSetFollows rules same before (as_sets cs)) (map-append terms_of earlier (c ∷ [])) (EachSetFollows-of_sets rules same (earlier ++ c ∷ []) cs f.1),
)

pub set-refutation-of : {N X V R : Type 0} (rules : Rules N X V R) (same : V → V → Bool) (conflicts : List (List (NodeChoice X V))) → IsRefutation rules same conflicts → IsSetRefutation rules same (as_sets conflicts)
set-refutation-of rules same conflicts f = record {
  each = EachSetFollows-of_sets rules same [] conflicts f.each;
  front = as_sets f.front;
  ends = ap as_sets f.ends ∙ map-append terms_of f.front ([] ∷ []);
}
