-- A conflict that follows in a table stands for one that follows in the rules.
use Rattle.std.proofs.Common.{ℕ, List, [], ◌∷◌, ◌++◌, ◌≡◌, ◌<◌, inl, inr, Contains, length, map, sym, ◌∙◌, ap, subst, Bool, true, false}
use Rattle.std.proofs.lemmas.Bool.{eq-eqb}
use Rattle.lists.proofs.Members.{map-append, Contains-here, Contains-there, Contains-map, Contains-map_of}
use Rattle.search.proofs.PlacesEquality.{off-of}
use Rattle.search.proofs.PictureFacts.{picture-lines, picture-nodes}
use Rattle.search.proofs.Ranges.{eq-true, lines-known, wants-known, nodes-known, name-known}
use Rattle.search.specs.declared.conflict.NodeChoice.{NodeChoice}
use Rattle.search.specs.Conflicts.{IsSameChoice, LineRefuses, ChoicesClash, VersionsDiffer, NeedsNode, Completes, NoneLeft, Follows, EachFollows, IsRefutation}
use Rattle.search.specs.Known.{IsKnown, AreKnown, choice_pictured, conflict_pictured, conflicts_pictured, AreApart}
use Rattle.search.specs.Picture.{Picture, IsPicture, name_required}
use Rattle.search.specs.Rules.{Rules}
use Rattle.search.specs.Table.{TableParts, rules_of, name_of, wants_at, candidates_of, admits_at, in_range, places_eq}

-- ---- what the rules say of what a known choice stands for

pub named-pictured : {N X V R : Type 0} (t : TableParts) (picture : Picture N X V R) (rules : Rules N X V R) → IsPicture t picture rules → (r : ℕ) (c : NodeChoice ℕ ℕ) → r < length t.requirements → IsKnown t c → name_required t r ≡ name_of t c.node → rules.name (picture.requirement r) ≡ rules.on (picture.node c.node)
named-pictured t picture rules h r c l k e = h.required r l ∙ ap picture.name e ∙ sym (h.on c.node k.0)

pub admits-pictured : {N X V R : Type 0} (t : TableParts) (picture : Picture N X V R) (rules : Rules N X V R) → IsPicture t picture rules → (r : ℕ) (c : NodeChoice ℕ ℕ) → r < length t.requirements → IsKnown t c → name_required t r ≡ name_of t c.node → rules.admits (picture.requirement r) (picture.version (name_of t c.node) c.version) ≡ admits_at t r c.version
admits-pictured t picture rules h r c l k e =
    subst (λ n. Contains (candidates_of t n) c.version → rules.admits (picture.requirement r) (picture.version n c.version) ≡ admits_at t r c.version) e (h.admits r c.version l) k.1

pub wants-pictured : {N X V R : Type 0} (t : TableParts) (picture : Picture N X V R) (rules : Rules N X V R) → IsPicture t picture rules → (c : NodeChoice ℕ ℕ) (r : ℕ) → IsKnown t c → Contains (wants_at t c.node c.version) r → Contains (rules.wants (picture.node c.node) (picture.version (name_of t c.node) c.version)) (picture.requirement r)
wants-pictured t picture rules h c r k w =
    subst (λ rs. Contains rs (picture.requirement r)) (sym (h.wants c.node c.version k.0 k.1)) (Contains-map_of picture.requirement (wants_at t c.node c.version) r w)

-- ---- the cases

line-pictured : {N X V R : Type 0} (t : TableParts) (picture : Picture N X V R) (rules : Rules N X V R) → in_range t ≡ true → IsPicture t picture rules → (conflict : List (NodeChoice ℕ ℕ)) → ((c : NodeChoice ℕ ℕ) → Contains conflict c → IsKnown t c) → LineRefuses (rules_of t) conflict → LineRefuses rules (conflict_pictured t picture conflict)
line-pictured t picture rules known h conflict k f =
    let l : f.line < length t.requirements = lines-known t known f.line f.active in
    record {
      choice = choice_pictured t picture f.choice;
      there = Contains-map_of (choice_pictured t picture) conflict f.choice f.there;
      line = picture.requirement f.line;
      active = picture-lines t picture rules h f.line f.active;
      named = named-pictured t picture rules h f.line f.choice l (k f.choice f.there) f.named;
      refused = admits-pictured t picture rules h f.line f.choice l (k f.choice f.there) f.named ∙ f.refused;
    }

clash-pictured : {N X V R : Type 0} (t : TableParts) (picture : Picture N X V R) (rules : Rules N X V R) → in_range t ≡ true → IsPicture t picture rules → (conflict : List (NodeChoice ℕ ℕ)) → ((c : NodeChoice ℕ ℕ) → Contains conflict c → IsKnown t c) → ChoicesClash (rules_of t) conflict → ChoicesClash rules (conflict_pictured t picture conflict)
clash-pictured t picture rules known h conflict k f =
    let l : f.wanted < length t.requirements = wants-known t known f.one.node f.one.version f.wanted f.counts in
    record {
      one = choice_pictured t picture f.one;
      other = choice_pictured t picture f.other;
      there = Contains-map_of (choice_pictured t picture) conflict f.one f.there;
      there_too = Contains-map_of (choice_pictured t picture) conflict f.other f.there_too;
      wanted = picture.requirement f.wanted;
      counts = wants-pictured t picture rules h f.one f.wanted (k f.one f.there) f.counts;
      named = named-pictured t picture rules h f.wanted f.other l (k f.other f.there_too) f.named;
      refused = admits-pictured t picture rules h f.wanted f.other l (k f.other f.there_too) f.named ∙ f.refused;
    }

-- candidates at two places of one name stand for two versions
pub apart-pictured : {N X V R : Type 0} (t : TableParts) (picture : Picture N X V R) (same : V → V → Bool) → AreApart t picture same → (n m p q : ℕ) → n ≡ m → Contains (candidates_of t n) p → Contains (candidates_of t m) q → places_eq p q ≡ false → same (picture.version n p) (picture.version m q) ≡ false
apart-pictured t picture same a n m p q e i j differ =
    subst (λ x. Contains (candidates_of t x) q → same (picture.version n p) (picture.version x q) ≡ false) e
    (λ there. off-of (same (picture.version n p) (picture.version n q)) (λ one. let both : places_eq p q ≡ true = eq-eqb p q (a.apart n p q i there one) in absurd (cc)))
    j

differ-pictured : {N X V R : Type 0} (t : TableParts) (picture : Picture N X V R) (rules : Rules N X V R) (same : V → V → Bool) → IsPicture t picture rules → AreApart t picture same → (conflict : List (NodeChoice ℕ ℕ)) → ((c : NodeChoice ℕ ℕ) → Contains conflict c → IsKnown t c) → VersionsDiffer (rules_of t) places_eq conflict → VersionsDiffer rules same (conflict_pictured t picture conflict)
differ-pictured t picture rules same h a conflict k f =
    let one : IsKnown t f.one = k f.one f.there in
    let other : IsKnown t f.other = k f.other f.there_too in
    record {
      one = choice_pictured t picture f.one;
      other = choice_pictured t picture f.other;
      there = Contains-map_of (choice_pictured t picture) conflict f.one f.there;
      there_too = Contains-map_of (choice_pictured t picture) conflict f.other f.there_too;
      named = h.on f.one.node one.0 ∙ ap picture.name f.named ∙ sym (h.on f.other.node other.0);
      differ = apart-pictured t picture same a (name_of t f.one.node) (name_of t f.other.node) f.one.version f.other.version f.named one.1 other.1 f.differ;
    }

-- choices that are one stand for choices that are one
same-pictured : {N X V R : Type 0} (t : TableParts) (picture : Picture N X V R) (same : V → V → Bool) → AreApart t picture same → (c d : NodeChoice ℕ ℕ) → IsSameChoice places_eq c d → IsSameChoice same (choice_pictured t picture c) (choice_pictured t picture d)
same-pictured t picture same a c d e =
    let place : c.version ≡ d.version = eq-true c.version d.version e.versions in
    let version : picture.version (name_of t c.node) c.version ≡ picture.version (name_of t d.node) d.version = λ i. picture.version (name_of t (e.nodes i)) (place i) in
    record {
      nodes = ap picture.node e.nodes;
      versions = subst (λ v. same (picture.version (name_of t c.node) c.version) v ≡ true) version (a.own (picture.version (name_of t c.node) c.version));
    }

completes-pictured : {N X V R : Type 0} (t : TableParts) (picture : Picture N X V R) (same : V → V → Bool) → AreApart t picture same → (earlier : List (List (NodeChoice ℕ ℕ))) (conflict : List (NodeChoice ℕ ℕ)) (choice : NodeChoice ℕ ℕ) → Completes places_eq earlier conflict choice → Completes same (conflicts_pictured t picture earlier) (conflict_pictured t picture conflict) (choice_pictured t picture choice)
completes-pictured {N} {X} {V} t picture same a earlier conflict choice f = (
  conflict_pictured t picture f.0,
  Contains-map_of (conflict_pictured t picture) earlier f.0 f.1,
  λ member i.
      let m : (m : NodeChoice ℕ ℕ) × Contains f.0 m × (choice_pictured t picture m ≡ member) = Contains-map (choice_pictured t picture) f.0 member i in
      elim (f.2 m.0 m.1) [
        | inl c ↦ inl (
          choice_pictured t picture c.0,
          Contains-map_of (choice_pictured t picture) conflict c.0 c.1,
          subst (λ (x : NodeChoice X V). IsSameChoice same x (choice_pictured t picture c.0)) m.2 (same-pictured t picture same a m.0 c.0 c.2),
        )
        | inr e ↦ inr (subst (λ (x : NodeChoice X V). IsSameChoice same x (choice_pictured t picture choice)) m.2 (same-pictured t picture same a m.0 choice e))
      ],
)

needs-pictured : {N X V R : Type 0} (t : TableParts) (picture : Picture N X V R) (rules : Rules N X V R) → in_range t ≡ true → IsPicture t picture rules → (conflict : List (NodeChoice ℕ ℕ)) → ((c : NodeChoice ℕ ℕ) → Contains conflict c → IsKnown t c) → (node : ℕ) → NeedsNode (rules_of t) conflict node → (node < length t.nodes) × NeedsNode rules (conflict_pictured t picture conflict) (picture.node node)
needs-pictured t picture rules known h conflict k node needs = elim needs [
  | inl a ↦
      let l : a.0 < length t.requirements = lines-known t known a.0 a.1 in
      (nodes-known t known a.0 l node a.2, inl (picture.requirement a.0, picture-lines t picture rules h a.0 a.1, picture-nodes t picture rules h a.0 node l a.2))
  | inr b ↦
      let l : b.1 < length t.requirements = wants-known t known b.0.node b.0.version b.1 b.3 in (
        nodes-known t known b.1 l node b.4,
        inr (
          choice_pictured t picture b.0,
          picture.requirement b.1,
          Contains-map_of (choice_pictured t picture) conflict b.0 b.2,
          wants-pictured t picture rules h b.0 b.1 (k b.0 b.2) b.3,
          picture-nodes t picture rules h b.1 node l b.4,
        ),
      )
]

none-pictured : {N X V R : Type 0} (t : TableParts) (picture : Picture N X V R) (rules : Rules N X V R) (same : V → V → Bool) → in_range t ≡ true → IsPicture t picture rules → AreApart t picture same → (earlier : List (List (NodeChoice ℕ ℕ))) (conflict : List (NodeChoice ℕ ℕ)) → ((c : NodeChoice ℕ ℕ) → Contains conflict c → IsKnown t c) → NoneLeft (rules_of t) places_eq earlier conflict → NoneLeft rules same (conflicts_pictured t picture earlier) (conflict_pictured t picture conflict)
none-pictured {N} {X} {V} t picture rules same known h a earlier conflict k f =
    let needs : (f.node < length t.nodes) × NeedsNode rules (conflict_pictured t picture conflict) (picture.node f.node) = needs-pictured t picture rules known h conflict k f.node f.needs in
    let n : ℕ = name_of t f.node in
    let candidates : rules.candidates (rules.on (picture.node f.node)) ≡ map (picture.version n) (candidates_of t n) = ap rules.candidates (h.on f.node needs.0) ∙ h.candidates n (name-known t known f.node needs.0) in
    record {
      node = picture.node f.node;
      needs = needs.1;
      each = λ v i.
          let p : (p : ℕ) × Contains (candidates_of t n) p × (picture.version n p ≡ v) = Contains-map (picture.version n) (candidates_of t n) v (subst (λ vs. Contains vs v) candidates i) in
          subst (λ (w : V). Completes same (conflicts_pictured t picture earlier) (conflict_pictured t picture conflict) (record { node = picture.node f.node; version = w })) p.2
          (completes-pictured t picture same a earlier conflict (record { node = f.node; version = p.0 }) (f.each p.0 p.1));
    }

-- ---- the law

Follows-pictured : {N X V R : Type 0} (t : TableParts) (picture : Picture N X V R) (rules : Rules N X V R) (same : V → V → Bool) → in_range t ≡ true → IsPicture t picture rules → AreApart t picture same → (earlier : List (List (NodeChoice ℕ ℕ))) (conflict : List (NodeChoice ℕ ℕ)) → ((c : NodeChoice ℕ ℕ) → Contains conflict c → IsKnown t c) → Follows (rules_of t) places_eq earlier conflict → Follows rules same (conflicts_pictured t picture earlier) (conflict_pictured t picture conflict)
Follows-pictured t picture rules same known h a earlier conflict k f = elim f [
  | inl b ↦ inl (line-pictured t picture rules known h conflict k b)
  | inr (inl b) ↦ inr (inl (clash-pictured t picture rules known h conflict k b))
  | inr (inr (inl b)) ↦ inr (inr (inl (differ-pictured t picture rules same h a conflict k b)))
  | inr (inr (inr b)) ↦ inr (inr (inr (none-pictured t picture rules same known h a earlier conflict k b)))
]

pub EachFollows-pictured : {N X V R : Type 0} (t : TableParts) (picture : Picture N X V R) (rules : Rules N X V R) (same : V → V → Bool) → in_range t ≡ true → IsPicture t picture rules → AreApart t picture same → (earlier conflicts : List (List (NodeChoice ℕ ℕ))) → AreKnown t conflicts → EachFollows (rules_of t) places_eq earlier conflicts → EachFollows rules same (conflicts_pictured t picture earlier) (conflicts_pictured t picture conflicts)
EachFollows-pictured t picture rules same known h a earlier [] k f = tt
EachFollows-pictured t picture rules same known h a earlier (c ∷ cs) k f = (
  Follows-pictured t picture rules same known h a earlier c (λ d i. k c d (Contains-here c cs) i) f.0,
  subst (λ before. EachFollows rules same before (conflicts_pictured t picture cs)) (map-append (conflict_pictured t picture) earlier (c ∷ []))
      (EachFollows-pictured t picture rules same known h a (earlier ++ c ∷ []) cs (λ conflict d i j. k conflict d (Contains-there c cs conflict i) j) f.1),
)

-- a refutation of a table stands for one of the rules
pub refutation-pictured : {N X V R : Type 0} (t : TableParts) (picture : Picture N X V R) (rules : Rules N X V R) (same : V → V → Bool) → in_range t ≡ true → IsPicture t picture rules → AreApart t picture same → (conflicts : List (List (NodeChoice ℕ ℕ))) → AreKnown t conflicts → IsRefutation (rules_of t) places_eq conflicts → IsRefutation rules same (conflicts_pictured t picture conflicts)
refutation-pictured t picture rules same known h a conflicts k f = record {
  each = EachFollows-pictured t picture rules same known h a [] conflicts k f.each;
  front = conflicts_pictured t picture f.front;
  ends = ap (conflicts_pictured t picture) f.ends ∙ map-append (conflict_pictured t picture) f.front ([] ∷ []);
}
