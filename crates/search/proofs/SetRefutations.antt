-- A conflict of sets that follows from conflicts that lie in no solution lies in none either.
use Rattle.std.proofs.Common.{List, [], ◌∷◌, ◌++◌, ◌≡◌, ◌⊎◌, refl, inl, inr, Contains, sym, ◌∙◌, ap, subst, Some, Option, Bool, true, false, append_assoc, append-nil}
use Rattle.std.proofs.lemmas.List.Elements.{Contains-push_cases, Contains-append_right}
use Rattle.lists.proofs.Members.{Contains-here, Contains-nil}
use Rattle.search.proofs.PinnedMaps.{Needed-in_solution, some-inj}
use Rattle.search.specs.Rules.{Rules, IsLawful}
use Rattle.search.specs.Solutions.{Needed, by_line, by_dependency, IsMet, Solution, HasNoSolution}
use Rattle.search.specs.Conflicts.{IsVersionEquality}
use Rattle.search.specs.declared.term.Term.{Term}
use Rattle.search.specs.SetConflicts.{HasVersion, TermLiesIn, SetLiesIn, SetLiesInNone, LineRefusesSet, SetsClash, BindsWithin, CompletesSet, EachVersion, SetNeedsNode, NoCandidateLeft, SetFollows, EachSetFollows, IsSetRefutation}

-- what a solution meets admits the version of a term that lies in it
set-met : {N X V R : Type 0} (rules : Rules N X V R) (same : V → V → Bool) → IsVersionEquality rules same → (s : N → Option V) (r : R) (t : Term X V) → IsMet rules s r → rules.name r ≡ rules.on t.node → (lies : TermLiesIn rules same s t) → rules.admits r lies.has.0 ≡ false → ⊥
set-met rules same equal s r t met named lies bad =
    let one : met.0 ≡ lies.version = some-inj met.0 lies.version (sym met.1 ∙ ap s named ∙ lies.chosen) in
    let good : rules.admits r lies.has.0 ≡ true = equal.admits r lies.has.0 lies.version lies.has.2 ∙ subst (λ v. rules.admits r v ≡ true) one met.2 in
    cc

set-line : {N X V R : Type 0} (rules : Rules N X V R) (same : V → V → Bool) → IsVersionEquality rules same → (conflict : List (Term X V)) → LineRefusesSet rules conflict → SetLiesInNone rules same conflict
set-line rules same equal conflict f s sol h =
    let k : TermLiesIn rules same s f.term = h f.term f.there in
    set-met rules same equal s f.line f.term (sol.lines_met f.line f.active) f.named k (f.refused k.has.0 k.has.1)

-- what the version of a term that lies in the solution wants is met there
set-wanted : {N X V R : Type 0} (rules : Rules N X V R) (same : V → V → Bool) → IsVersionEquality rules same → (s : N → Option V) → Solution rules s → (t : Term X V) → (lies : TermLiesIn rules same s t) → (r : R) → Contains (rules.wants t.node lies.has.0) r → IsMet rules s r
set-wanted rules same equal s sol t lies r w =
    sol.dependencies_met t.node lies.version r lies.needed lies.chosen (subst (λ rs. Contains rs r) (equal.wants t.node lies.has.0 lies.version lies.has.2) w)

set-clash : {N X V R : Type 0} (rules : Rules N X V R) (same : V → V → Bool) → IsVersionEquality rules same → (conflict : List (Term X V)) → SetsClash rules same conflict → SetLiesInNone rules same conflict
set-clash rules same equal conflict f s sol h =
    let one : TermLiesIn rules same s f.one = h f.one f.there in
    let other : TermLiesIn rules same s f.other = h f.other f.there_too in
    elim (f.clash one.has.0 other.has.0 one.has.1 other.has.1) [
      | inl a ↦ set-met rules same equal s a.0 f.other (set-wanted rules same equal s sol f.one one a.0 a.1) a.2 other a.3
      | inr (inl b) ↦ set-met rules same equal s b.0 f.one (set-wanted rules same equal s sol f.other other b.0 b.1) b.2 one b.3
      | inr (inr d) ↦
          let e : other.version ≡ one.version = some-inj other.version one.version (sym other.chosen ∙ sym (ap s d.0) ∙ one.chosen) in
          let bad : same one.has.0 other.has.0 ≡ false = d.1 in
          let k : same one.has.0 other.has.0 ≡ true = equal.onward one.has.0 one.version other.has.0 one.has.2
          (equal.back other.has.0 one.version (subst (λ v. same other.has.0 v ≡ true) e other.has.2)) in
          cc
    ]

-- a term within which one lies that lies in the solution lies there too
within-lies : {N X V R : Type 0} (rules : Rules N X V R) (same : V → V → Bool) → IsVersionEquality rules same → (s : N → Option V) (conflict : List (Term X V)) (t : Term X V) → BindsWithin same conflict t → SetLiesIn rules same s conflict → TermLiesIn rules same s t
within-lies rules same equal s conflict t b h =
    let k : TermLiesIn rules same s b.0 = h b.0 b.1 in
    let w : HasVersion same t.versions k.has.0 = b.3 k.has.0 k.has.1 in
    record {
      needed = subst (λ node. Needed rules s node) b.2 k.needed;
      version = k.version;
      chosen = sym (ap (λ node. s (rules.on node)) b.2) ∙ k.chosen;
      has = (w.0, w.1, equal.onward w.0 k.has.0 k.version w.2 k.has.2);
    }

-- where the solution has this version at a needed node, an earlier conflict that is completed by it lies there
completed-excluded : {N X V R : Type 0} (rules : Rules N X V R) (same : V → V → Bool) → IsVersionEquality rules same → (earlier : List (List (Term X V))) (conflict : List (Term X V)) → ((old : List (Term X V)) → Contains earlier old → SetLiesInNone rules same old) → (node : X) (v : V) → CompletesSet same earlier conflict node v → (s : N → Option V) → Solution rules s → SetLiesIn rules same s conflict → Needed rules s node → (version : V) → s (rules.on node) ≡ Some version → (same v version ≡ true) ⊎ (v ≡ version) → ⊥
completed-excluded {N} {X} {V} rules same equal earlier conflict before node v k s sol h needed version chosen is =
    before k.0 k.1 s sol (λ t i. elim (k.2 t i) [
      | inl a ↦ within-lies rules same equal s conflict t a h
      | inr b ↦ record {
        needed = subst (λ n. Needed rules s n) (sym b.0) needed;
        version = version;
        chosen = ap (λ n. s (rules.on n)) b.0 ∙ chosen;
        has = (b.1.0, b.1.1, elim is [ inl e ↦ equal.onward b.1.0 v version b.1.2 e | inr e ↦ subst (λ x. same b.1.0 x ≡ true) e b.1.2 ]);
      }
    ])

set-each : {N X V R : Type 0} (rules : Rules N X V R) (same : V → V → Bool) → IsVersionEquality rules same → (earlier : List (List (Term X V))) (conflict : List (Term X V)) → ((old : List (Term X V)) → Contains earlier old → SetLiesInNone rules same old) → EachVersion same earlier conflict → SetLiesInNone rules same conflict
set-each rules same equal earlier conflict before f s sol h =
    let k : TermLiesIn rules same s f.term = h f.term f.there in
    completed-excluded rules same equal earlier conflict before f.term.node k.has.0 (f.each k.has.0 k.has.1) s sol h k.needed k.version k.chosen (inl k.has.2)

set-needed : {N X V R : Type 0} (rules : Rules N X V R) (same : V → V → Bool) → IsVersionEquality rules same → (s : N → Option V) (conflict : List (Term X V)) (node : X) → SetNeedsNode rules conflict node → SetLiesIn rules same s conflict → Needed rules s node
set-needed rules same equal s conflict node needs h = elim needs [
  | inl a ↦ by_line a.0 node a.1 a.2
  | inr b ↦
      let k : TermLiesIn rules same s b.0 = h b.0 b.1 in
      let w = b.2 k.has.0 k.has.1 in
      by_dependency b.0.node k.version w.0 node k.needed k.chosen (subst (λ rs. Contains rs w.0) (equal.wants b.0.node k.has.0 k.version k.has.2) w.1) w.2
]

set-none : {N X V R : Type 0} (rules : Rules N X V R) (same : V → V → Bool) → IsLawful rules → IsVersionEquality rules same → (earlier : List (List (Term X V))) (conflict : List (Term X V)) → ((old : List (Term X V)) → Contains earlier old → SetLiesInNone rules same old) → NoCandidateLeft rules same earlier conflict → SetLiesInNone rules same conflict
set-none {N} {X} {V} rules same law equal earlier conflict before f s sol h =
    let needed : Needed rules s f.node = set-needed rules same equal s conflict f.node f.needs h in
    let v : (v : V) × (s (rules.on f.node) ≡ Some v) = Needed-in_solution rules law s sol f.node needed in
    completed-excluded rules same equal earlier conflict before f.node v.0 (f.each v.0 (sol.released (rules.on f.node) v.0 v.1)) s sol h needed v.0 v.1 (inr refl)

-- the law
pub SetFollows-excluded : {N X V R : Type 0} (rules : Rules N X V R) (same : V → V → Bool) → IsLawful rules → IsVersionEquality rules same → (earlier : List (List (Term X V))) (conflict : List (Term X V)) → ((old : List (Term X V)) → Contains earlier old → SetLiesInNone rules same old) → SetFollows rules same earlier conflict → SetLiesInNone rules same conflict
SetFollows-excluded rules same law equal earlier conflict before f = elim f [
  | inl a ↦ set-line rules same equal conflict a
  | inr (inl b) ↦ set-clash rules same equal conflict b
  | inr (inr (inl d)) ↦ set-each rules same equal earlier conflict before d
  | inr (inr (inr e)) ↦ set-none rules same law equal earlier conflict before e
]

EachSetFollows-excluded : {N X V R : Type 0} (rules : Rules N X V R) (same : V → V → Bool) → IsLawful rules → IsVersionEquality rules same → (earlier cs : List (List (Term X V))) → ((old : List (Term X V)) → Contains earlier old → SetLiesInNone rules same old) → EachSetFollows rules same earlier cs → (c : List (Term X V)) → Contains (earlier ++ cs) c → SetLiesInNone rules same c
EachSetFollows-excluded rules same law equal earlier [] before f c i = before c (subst (λ xs. Contains xs c) (append-nil earlier) i)
EachSetFollows-excluded rules same law equal earlier (d ∷ cs) before f c i = EachSetFollows-excluded rules same law equal (earlier ++ d ∷ []) cs
    (λ old k. elim (Contains-push_cases earlier d old k) [ inl a ↦ before old a | inr b ↦ subst (λ x. SetLiesInNone rules same x) b (SetFollows-excluded rules same law equal earlier d before f.0) ])
    f.1 c (subst (λ xs. Contains xs c) (sym (append_assoc earlier (d ∷ []) cs)) i)

-- each conflict of a list that follows lies in no solution
pub set-list-excluded : {N X V R : Type 0} (rules : Rules N X V R) (same : V → V → Bool) → IsLawful rules → IsVersionEquality rules same → (conflicts : List (List (Term X V))) → EachSetFollows rules same [] conflicts → (c : List (Term X V)) → Contains conflicts c → SetLiesInNone rules same c
set-list-excluded rules same law equal conflicts f c i = EachSetFollows-excluded rules same law equal [] conflicts (λ old k. absurd (Contains-nil old k)) f c i

-- a set refutation shows that there is no solution
pub set-refutation-none : {N X V R : Type 0} (rules : Rules N X V R) (same : V → V → Bool) → IsLawful rules → IsVersionEquality rules same → (conflicts : List (List (Term X V))) → IsSetRefutation rules same conflicts → HasNoSolution rules
set-refutation-none rules same law equal conflicts f s sol =
    set-list-excluded rules same law equal conflicts f.each []
    (subst (λ xs. Contains xs []) (sym f.ends) (Contains-append_right f.front ([] ∷ []) [] (Contains-here [] [])))
    s sol (λ c i. absurd (Contains-nil c i))
