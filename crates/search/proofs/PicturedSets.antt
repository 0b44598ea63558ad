-- A conflict of sets that follows in a table stands for one that follows in the rules.
use Rattle.std.proofs.Common.{ℕ, List, [], ◌∷◌, ◌++◌, ◌≡◌, ◌⊎◌, ◌<◌, inl, inr, Contains, length, map, refl, sym, ◌∙◌, ap, subst, Bool, true, false}
use Rattle.lists.proofs.Members.{map-append, Contains-here, Contains-there, Contains-map, Contains-map_of, Contains-nil}
use Rattle.search.proofs.PictureFacts.{picture-lines, picture-nodes}
use Rattle.search.proofs.PicturedConflicts.{named-pictured, admits-pictured, wants-pictured, apart-pictured}
use Rattle.search.proofs.Ranges.{eq-true, lines-known, wants-known, nodes-known, name-known}
use Rattle.search.specs.declared.conflict.NodeChoice.{NodeChoice}
use Rattle.search.specs.declared.term.Term.{Term}
use Rattle.search.specs.SetConflicts.{HasVersion, LineRefusesSet, Refuses, PairClashes, SetsClash, BindsWithin, CompletesSet, EachVersion, SetNeedsNode, NoCandidateLeft, SetFollows, EachSetFollows, IsSetRefutation}
use Rattle.search.specs.Known.{IsKnown, IsKnownTerm, AreKnownSets, AreApart, term_pictured, set_pictured, sets_pictured}
use Rattle.search.specs.Picture.{Picture, IsPicture}
use Rattle.search.specs.Rules.{Rules}
use Rattle.search.specs.Table.{TableParts, rules_of, name_of, candidates_of, in_range, places_eq}

-- a term with one of its versions, as a choice
abbrev at : Term ℕ ℕ → ℕ → NodeChoice ℕ ℕ
at c v = record { node = c.node; version = v }

known-at : (t : TableParts) (c : Term ℕ ℕ) (v : ℕ) → IsKnownTerm t c → Contains c.versions v → IsKnown t (at c v)
known-at t c v k i = (k.0, k.1 v i)

-- what each version of a term is, its picture has of each of its own
each-pictured : {N X V R : Type 0} (t : TableParts) (picture : Picture N X V R) (c : Term ℕ ℕ) (P : V → Type 0) → ((v : ℕ) → Contains c.versions v → P (picture.version (name_of t c.node) v)) → (w : V) → Contains (term_pictured t picture c).versions w → P w
each-pictured {N} {X} {V} t picture c P each w i =
    let p : (v : ℕ) × Contains c.versions v × (picture.version (name_of t c.node) v ≡ w) = Contains-map (picture.version (name_of t c.node)) c.versions w i in
    subst P p.2 (each p.0 p.1)

-- ---- the cases

line-pictured : {N X V R : Type 0} (t : TableParts) (picture : Picture N X V R) (rules : Rules N X V R) → in_range t ≡ true → IsPicture t picture rules → (conflict : List (Term ℕ ℕ)) → ((c : Term ℕ ℕ) → Contains conflict c → IsKnownTerm t c) → LineRefusesSet (rules_of t) conflict → LineRefusesSet rules (set_pictured t picture conflict)
line-pictured t picture rules known h conflict k f =
    let l : f.line < length t.requirements = lines-known t known f.line f.active in
    let term : IsKnownTerm t f.term = k f.term f.there in
    record {
      term = term_pictured t picture f.term;
      there = Contains-map_of (term_pictured t picture) conflict f.term f.there;
      line = picture.requirement f.line;
      active = picture-lines t picture rules h f.line f.active;
      named = h.required f.line l ∙ ap picture.name f.named ∙ sym (h.on f.term.node term.0);
      refused = each-pictured t picture f.term (λ w. rules.admits (picture.requirement f.line) w ≡ false)
          (λ v i. admits-pictured t picture rules h f.line (at f.term v) l (known-at t f.term v term i) f.named ∙ f.refused v i);
    }

refuses-pictured : {N X V R : Type 0} (t : TableParts) (picture : Picture N X V R) (rules : Rules N X V R) → in_range t ≡ true → IsPicture t picture rules → (c d : NodeChoice ℕ ℕ) → IsKnown t c → IsKnown t d → Refuses (rules_of t) c.node c.version d.node d.version → Refuses rules (picture.node c.node) (picture.version (name_of t c.node) c.version) (picture.node d.node) (picture.version (name_of t d.node) d.version)
refuses-pictured t picture rules known h c d k m f =
    let l : f.0 < length t.requirements = wants-known t known c.node c.version f.0 f.1 in (
      picture.requirement f.0,
      wants-pictured t picture rules h c f.0 k f.1,
      named-pictured t picture rules h f.0 d l m f.2,
      admits-pictured t picture rules h f.0 d l m f.2 ∙ f.3,
    )

pair-pictured : {N X V R : Type 0} (t : TableParts) (picture : Picture N X V R) (rules : Rules N X V R) (same : V → V → Bool) → in_range t ≡ true → IsPicture t picture rules → AreApart t picture same → (c d : NodeChoice ℕ ℕ) → IsKnown t c → IsKnown t d → PairClashes (rules_of t) places_eq c.node c.version d.node d.version → PairClashes rules same (picture.node c.node) (picture.version (name_of t c.node) c.version) (picture.node d.node) (picture.version (name_of t d.node) d.version)
pair-pictured t picture rules same known h a c d k m f = elim f [
  | inl b ↦ inl (refuses-pictured t picture rules known h c d k m b)
  | inr (inl b) ↦ inr (inl (refuses-pictured t picture rules known h d c m k b))
  | inr (inr b) ↦ inr (inr (
    h.on c.node k.0 ∙ ap picture.name b.0 ∙ sym (h.on d.node m.0),
    apart-pictured t picture same a (name_of t c.node) (name_of t d.node) c.version d.version b.0 k.1 m.1 b.1,
  ))
]

clash-pictured : {N X V R : Type 0} (t : TableParts) (picture : Picture N X V R) (rules : Rules N X V R) (same : V → V → Bool) → in_range t ≡ true → IsPicture t picture rules → AreApart t picture same → (conflict : List (Term ℕ ℕ)) → ((c : Term ℕ ℕ) → Contains conflict c → IsKnownTerm t c) → SetsClash (rules_of t) places_eq conflict → SetsClash rules same (set_pictured t picture conflict)
clash-pictured t picture rules same known h a conflict k f = record {
  one = term_pictured t picture f.one;
  other = term_pictured t picture f.other;
  there = Contains-map_of (term_pictured t picture) conflict f.one f.there;
  there_too = Contains-map_of (term_pictured t picture) conflict f.other f.there_too;
  clash = λ v w i j. each-pictured t picture f.one (λ x. PairClashes rules same (picture.node f.one.node) x (picture.node f.other.node) w)
      (λ p m. each-pictured t picture f.other (λ y. PairClashes rules same (picture.node f.one.node) (picture.version (name_of t f.one.node) p) (picture.node f.other.node) y)
      (λ q n. pair-pictured t picture rules same known h a (at f.one p) (at f.other q) (known-at t f.one p (k f.one f.there) m) (known-at t f.other q (k f.other f.there_too) n) (f.clash p q m n))
      w j)
      v i;
}

-- where some version has the place, what it stands for has what the place stands for
has-pictured : {N X V R : Type 0} (t : TableParts) (picture : Picture N X V R) (same : V → V → Bool) → AreApart t picture same → (old : Term ℕ ℕ) (node v : ℕ) → old.node ≡ node → HasVersion places_eq old.versions v → HasVersion same (term_pictured t picture old).versions (picture.version (name_of t node) v)
has-pictured t picture same a old node v e f =
    let shown = picture.version (name_of t old.node) in
    let place : f.0 ≡ v = eq-true f.0 v f.2 in
    let version : shown f.0 ≡ picture.version (name_of t node) v = λ i. picture.version (name_of t (e i)) (place i) in
    (shown f.0, Contains-map_of shown old.versions f.0 f.1, subst (λ x. same (shown f.0) x ≡ true) version (a.own (shown f.0)))

within-pictured : {N X V R : Type 0} (t : TableParts) (picture : Picture N X V R) (same : V → V → Bool) → AreApart t picture same → (conflict : List (Term ℕ ℕ)) (old : Term ℕ ℕ) → BindsWithin places_eq conflict old → BindsWithin same (set_pictured t picture conflict) (term_pictured t picture old)
within-pictured t picture same a conflict old f = (
  term_pictured t picture f.0,
  Contains-map_of (term_pictured t picture) conflict f.0 f.1,
  ap picture.node f.2,
  each-pictured t picture f.0 (λ w. HasVersion same (term_pictured t picture old).versions w) (λ v i. has-pictured t picture same a old f.0.node v (sym f.2) (f.3 v i)),
)

completes-pictured : {N X V R : Type 0} (t : TableParts) (picture : Picture N X V R) (same : V → V → Bool) → AreApart t picture same → (earlier : List (List (Term ℕ ℕ))) (conflict : List (Term ℕ ℕ)) (node v : ℕ) → CompletesSet places_eq earlier conflict node v → CompletesSet same (sets_pictured t picture earlier) (set_pictured t picture conflict) (picture.node node) (picture.version (name_of t node) v)
completes-pictured {N} {X} {V} t picture same a earlier conflict node v f = (
  set_pictured t picture f.0,
  Contains-map_of (set_pictured t picture) earlier f.0 f.1,
  λ member i.
      let m : (m : Term ℕ ℕ) × Contains f.0 m × (term_pictured t picture m ≡ member) = Contains-map (term_pictured t picture) f.0 member i in
      subst (λ (x : Term X V). BindsWithin same (set_pictured t picture conflict) x ⊎ ((x.node ≡ picture.node node) × HasVersion same x.versions (picture.version (name_of t node) v))) m.2
      (elim (f.2 m.0 m.1) [
        | inl b ↦ inl (within-pictured t picture same a conflict m.0 b)
        | inr b ↦ inr (ap picture.node b.0, has-pictured t picture same a m.0 node v b.0 b.1)
      ]),
)

each_version-pictured : {N X V R : Type 0} (t : TableParts) (picture : Picture N X V R) (same : V → V → Bool) → AreApart t picture same → (earlier : List (List (Term ℕ ℕ))) (conflict : List (Term ℕ ℕ)) → EachVersion places_eq earlier conflict → EachVersion same (sets_pictured t picture earlier) (set_pictured t picture conflict)
each_version-pictured t picture same a earlier conflict f = record {
  term = term_pictured t picture f.term;
  there = Contains-map_of (term_pictured t picture) conflict f.term f.there;
  each = each-pictured t picture f.term (λ w. CompletesSet same (sets_pictured t picture earlier) (set_pictured t picture conflict) (picture.node f.term.node) w)
      (λ v i. completes-pictured t picture same a earlier conflict f.term.node v (f.each v i));
}

-- a term with no version clashes with itself
empty-clashes : {N X V R : Type 0} (rules : Rules N X V R) (same : V → V → Bool) (conflict : List (Term X V)) (c : Term X V) → Contains conflict c → c.versions ≡ [] → SetsClash rules same conflict
empty-clashes rules same conflict c there e = record {
  one = c;
  other = c;
  there = there;
  there_too = there;
  clash = λ v w i j. absurd (Contains-nil v (subst (λ vs. Contains vs v) e i));
}

-- a list is empty or has a first item
first-cases : {A : Type 0} (xs : List A) → (xs ≡ []) ⊎ ((x : A) × Contains xs x)
first-cases [] = inl refl
first-cases (x ∷ xs) = inr (x, Contains-here x xs)

-- a node that something needs is in range, or the conflict has a term with no version
needs-known : (t : TableParts) → in_range t ≡ true → (conflict : List (Term ℕ ℕ)) → (node : ℕ) → SetNeedsNode (rules_of t) conflict node → (node < length t.nodes) ⊎ ((c : Term ℕ ℕ) × Contains conflict c × (c.versions ≡ []))
needs-known t known conflict node needs = elim needs [
  | inl a ↦ inl (nodes-known t known a.0 (lines-known t known a.0 a.1) node a.2)
  | inr b ↦ elim (first-cases b.0.versions) [
    | inl none ↦ inr (b.0, b.1, none)
    | inr some ↦
        let w = b.2 some.0 some.1 in
        inl (nodes-known t known w.0 (wants-known t known b.0.node some.0 w.0 w.1) node w.2)
  ]
]

needs-pictured : {N X V R : Type 0} (t : TableParts) (picture : Picture N X V R) (rules : Rules N X V R) → in_range t ≡ true → IsPicture t picture rules → (conflict : List (Term ℕ ℕ)) → ((c : Term ℕ ℕ) → Contains conflict c → IsKnownTerm t c) → (node : ℕ) → SetNeedsNode (rules_of t) conflict node → SetNeedsNode rules (set_pictured t picture conflict) (picture.node node)
needs-pictured {N} {X} {V} {R} t picture rules known h conflict k node needs = elim needs [
  | inl a ↦ inl (picture.requirement a.0, picture-lines t picture rules h a.0 a.1, picture-nodes t picture rules h a.0 node (lines-known t known a.0 a.1) a.2)
  | inr b ↦ inr (
    term_pictured t picture b.0,
    Contains-map_of (term_pictured t picture) conflict b.0 b.1,
    each-pictured t picture b.0 (λ w. (wanted : R) × Contains (rules.wants (picture.node b.0.node) w) wanted × Contains (rules.nodes wanted) (picture.node node))
        (λ v i.
        let w = b.2 v i in
        let l : w.0 < length t.requirements = wants-known t known b.0.node v w.0 w.1 in (
          picture.requirement w.0,
          wants-pictured t picture rules h (at b.0 v) w.0 (known-at t b.0 v (k b.0 b.1) i) w.1,
          picture-nodes t picture rules h w.0 node l w.2,
        )),
  )
]

none-pictured : {N X V R : Type 0} (t : TableParts) (picture : Picture N X V R) (rules : Rules N X V R) (same : V → V → Bool) → in_range t ≡ true → IsPicture t picture rules → AreApart t picture same → (earlier : List (List (Term ℕ ℕ))) (conflict : List (Term ℕ ℕ)) → ((c : Term ℕ ℕ) → Contains conflict c → IsKnownTerm t c) → (f : NoCandidateLeft (rules_of t) places_eq earlier conflict) → f.node < length t.nodes → NoCandidateLeft rules same (sets_pictured t picture earlier) (set_pictured t picture conflict)
none-pictured {N} {X} {V} t picture rules same known h a earlier conflict k f below =
    let n : ℕ = name_of t f.node in
    let candidates : rules.candidates (rules.on (picture.node f.node)) ≡ map (picture.version n) (candidates_of t n) = ap rules.candidates (h.on f.node below) ∙ h.candidates n (name-known t known f.node below) in
    record {
      node = picture.node f.node;
      needs = needs-pictured t picture rules known h conflict k f.node f.needs;
      each = λ v i.
          let p : (p : ℕ) × Contains (candidates_of t n) p × (picture.version n p ≡ v) = Contains-map (picture.version n) (candidates_of t n) v (subst (λ vs. Contains vs v) candidates i) in
          subst (λ (w : V). CompletesSet same (sets_pictured t picture earlier) (set_pictured t picture conflict) (picture.node f.node) w) p.2
          (completes-pictured t picture same a earlier conflict f.node p.0 (f.each p.0 p.1));
    }

none_or_clash-pictured : {N X V R : Type 0} (t : TableParts) (picture : Picture N X V R) (rules : Rules N X V R) (same : V → V → Bool) → in_range t ≡ true → IsPicture t picture rules → AreApart t picture same → (earlier : List (List (Term ℕ ℕ))) (conflict : List (Term ℕ ℕ)) → ((c : Term ℕ ℕ) → Contains conflict c → IsKnownTerm t c) → NoCandidateLeft (rules_of t) places_eq earlier conflict → SetFollows rules same (sets_pictured t picture earlier) (set_pictured t picture conflict)
none_or_clash-pictured t picture rules same known h a earlier conflict k f = elim (needs-known t known conflict f.node f.needs) [
  | inl below ↦ inr (inr (inr (none-pictured t picture rules same known h a earlier conflict k f below)))
  | inr b ↦ inr (inl (empty-clashes rules same (set_pictured t picture conflict) (term_pictured t picture b.0) (Contains-map_of (term_pictured t picture) conflict b.0 b.1) (ap (map (picture.version (name_of t b.0.node))) b.2)))
]

-- ---- the law

SetFollows-pictured : {N X V R : Type 0} (t : TableParts) (picture : Picture N X V R) (rules : Rules N X V R) (same : V → V → Bool) → in_range t ≡ true → IsPicture t picture rules → AreApart t picture same → (earlier : List (List (Term ℕ ℕ))) (conflict : List (Term ℕ ℕ)) → ((c : Term ℕ ℕ) → Contains conflict c → IsKnownTerm t c) → SetFollows (rules_of t) places_eq earlier conflict → SetFollows rules same (sets_pictured t picture earlier) (set_pictured t picture conflict)
SetFollows-pictured t picture rules same known h a earlier conflict k f = elim f [
  | inl b ↦ inl (line-pictured t picture rules known h conflict k b)
  | inr (inl b) ↦ inr (inl (clash-pictured t picture rules same known h a conflict k b))
  | inr (inr (inl b)) ↦ inr (inr (inl (each_version-pictured t picture same a earlier conflict b)))
  | inr (inr (inr b)) ↦ none_or_clash-pictured t picture rules same known h a earlier conflict k b
]

pub EachSetFollows-pictured : {N X V R : Type 0} (t : TableParts) (picture : Picture N X V R) (rules : Rules N X V R) (same : V → V → Bool) → in_range t ≡ true → IsPicture t picture rules → AreApart t picture same → (earlier conflicts : List (List (Term ℕ ℕ))) → AreKnownSets t conflicts → EachSetFollows (rules_of t) places_eq earlier conflicts → EachSetFollows rules same (sets_pictured t picture earlier) (sets_pictured t picture conflicts)
EachSetFollows-pictured t picture rules same known h a earlier [] k f = tt
EachSetFollows-pictured t picture rules same known h a earlier (c ∷ cs) k f = (
  SetFollows-pictured t picture rules same known h a earlier c (λ d i. k c d (Contains-here c cs) i) f.0,
  subst (λ before. EachSetFollows rules same before (sets_pictured t picture cs)) (map-append (set_pictured t picture) earlier (c ∷ []))
      (EachSetFollows-pictured t picture rules same known h a (earlier ++ c ∷ []) cs (λ conflict d i j. k conflict d (Contains-there c cs conflict i) j) f.1),
)

-- a set refutation of a table stands for one of the rules
pub set-refutation-pictured : {N X V R : Type 0} (t : TableParts) (picture : Picture N X V R) (rules : Rules N X V R) (same : V → V → Bool) → in_range t ≡ true → IsPicture t picture rules → AreApart t picture same → (conflicts : List (List (Term ℕ ℕ))) → AreKnownSets t conflicts → IsSetRefutation (rules_of t) places_eq conflicts → IsSetRefutation rules same (sets_pictured t picture conflicts)
set-refutation-pictured t picture rules same known h a conflicts k f = record {
  each = EachSetFollows-pictured t picture rules same known h a [] conflicts k f.each;
  front = sets_pictured t picture f.front;
  ends = ap (sets_pictured t picture) f.ends ∙ map-append (set_pictured t picture) f.front ([] ∷ []);
}
