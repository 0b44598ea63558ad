-- A conflict that follows from conflicts that lie in no solution lies in none either.
use Rattle.std.proofs.Common.{List, [], ◌∷◌, ◌++◌, ◌≡◌, inl, inr, Contains, sym, ◌∙◌, ap, subst, Some, Option, Bool, true, false, append_assoc, append-nil}
use Rattle.std.proofs.lemmas.List.Elements.{Contains-push_cases, Contains-append_right}
use Rattle.lists.proofs.Members.{Contains-here, Contains-nil}
use Rattle.search.proofs.PinnedMaps.{Needed-in_solution, some-inj}
use Rattle.search.specs.declared.conflict.NodeChoice.{NodeChoice}
use Rattle.search.specs.Rules.{Rules, IsLawful}
use Rattle.search.specs.Solutions.{Needed, by_line, by_dependency, IsMet, Solution, HasNoSolution}
use Rattle.search.specs.Conflicts.{IsVersionEquality, IsSameChoice, LiesIn, ConflictLiesIn, LiesInNone, LineRefuses, ChoicesClash, VersionsDiffer, NeedsNode, Completes, NoneLeft, Follows, EachFollows, IsRefutation}

-- what a solution meets admits the version of a choice that lies in it
refused-met : {N X V R : Type 0} (rules : Rules N X V R) (same : V → V → Bool) → IsVersionEquality rules same → (s : N → Option V) (r : R) (c : NodeChoice X V) → IsMet rules s r → rules.name r ≡ rules.on c.node → LiesIn rules same s c → rules.admits r c.version ≡ false → ⊥
refused-met rules same equal s r c met named lies bad =
    let one : met.0 ≡ lies.version = some-inj met.0 lies.version (sym met.1 ∙ ap s named ∙ lies.chosen) in
    let good : rules.admits r c.version ≡ true = equal.admits r c.version lies.version lies.versions ∙ subst (λ v. rules.admits r v ≡ true) one met.2 in
    cc

line-excluded : {N X V R : Type 0} (rules : Rules N X V R) (same : V → V → Bool) → IsVersionEquality rules same → (conflict : List (NodeChoice X V)) → LineRefuses rules conflict → LiesInNone rules same conflict
line-excluded rules same equal conflict f s sol h = refused-met rules same equal s f.line f.choice (sol.lines_met f.line f.active) f.named (h f.choice f.there) f.refused

wanted-met : {N X V R : Type 0} (rules : Rules N X V R) (same : V → V → Bool) → IsVersionEquality rules same → (s : N → Option V) → Solution rules s → (c : NodeChoice X V) → LiesIn rules same s c → (r : R) → Contains (rules.wants c.node c.version) r → IsMet rules s r
wanted-met rules same equal s sol c lies r w =
    sol.dependencies_met c.node lies.version r lies.needed lies.chosen (subst (λ rs. Contains rs r) (equal.wants c.node c.version lies.version lies.versions) w)

clash-excluded : {N X V R : Type 0} (rules : Rules N X V R) (same : V → V → Bool) → IsVersionEquality rules same → (conflict : List (NodeChoice X V)) → ChoicesClash rules conflict → LiesInNone rules same conflict
clash-excluded rules same equal conflict f s sol h =
    refused-met rules same equal s f.wanted f.other (wanted-met rules same equal s sol f.one (h f.one f.there) f.wanted f.counts) f.named (h f.other f.there_too) f.refused

differ-excluded : {N X V R : Type 0} (rules : Rules N X V R) (same : V → V → Bool) → IsVersionEquality rules same → (conflict : List (NodeChoice X V)) → VersionsDiffer rules same conflict → LiesInNone rules same conflict
differ-excluded rules same equal conflict f s sol h =
    let one : LiesIn rules same s f.one = h f.one f.there in
    let other : LiesIn rules same s f.other = h f.other f.there_too in
    let e : other.version ≡ one.version = some-inj other.version one.version (sym other.chosen ∙ sym (ap s f.named) ∙ one.chosen) in
    let bad = f.differ in
    let k : same f.one.version f.other.version ≡ true = equal.onward f.one.version one.version f.other.version one.versions
    (equal.back f.other.version one.version (subst (λ v. same f.other.version v ≡ true) e other.versions)) in
    cc

node-needed : {N X V R : Type 0} (rules : Rules N X V R) (same : V → V → Bool) → IsVersionEquality rules same → (s : N → Option V) (conflict : List (NodeChoice X V)) (node : X) → NeedsNode rules conflict node → ConflictLiesIn rules same s conflict → Needed rules s node
node-needed rules same equal s conflict node needs h = elim needs [
  | inl a ↦ by_line a.0 node a.1 a.2
  | inr b ↦
      let k : LiesIn rules same s b.0 = h b.0 b.2 in
      by_dependency b.0.node k.version b.1 node k.needed k.chosen (subst (λ rs. Contains rs b.1) (equal.wants b.0.node b.0.version k.version k.versions) b.3) b.4
]

-- a choice that is one with another lies where that one does
same-lies : {N X V R : Type 0} (rules : Rules N X V R) (same : V → V → Bool) → IsVersionEquality rules same → (s : N → Option V) (c d : NodeChoice X V) → IsSameChoice same c d → LiesIn rules same s d → LiesIn rules same s c
same-lies rules same equal s c d e h = record {
  needed = subst (λ node. Needed rules s node) (sym e.nodes) h.needed;
  version = h.version;
  chosen = ap (λ node. s (rules.on node)) e.nodes ∙ h.chosen;
  versions = equal.onward c.version d.version h.version e.versions h.versions;
}

none-excluded : {N X V R : Type 0} (rules : Rules N X V R) (same : V → V → Bool) → IsLawful rules → IsVersionEquality rules same → (earlier : List (List (NodeChoice X V))) (conflict : List (NodeChoice X V)) → ((old : List (NodeChoice X V)) → Contains earlier old → LiesInNone rules same old) → NoneLeft rules same earlier conflict → LiesInNone rules same conflict
none-excluded {N} {X} {V} rules same law equal earlier conflict before f s sol h =
    let needed : Needed rules s f.node = node-needed rules same equal s conflict f.node f.needs h in
    let v : (v : V) × (s (rules.on f.node) ≡ Some v) = Needed-in_solution rules law s sol f.node needed in
    let k : Completes same earlier conflict (record { node = f.node; version = v.0 }) = f.each v.0 (sol.released (rules.on f.node) v.0 v.1) in
    before k.0 k.1 s sol (λ member i. elim (k.2 member i) [
      | inl a ↦ same-lies rules same equal s member a.0 a.2 (h a.0 a.1)
      | inr b ↦ record {
        needed = subst (λ node. Needed rules s node) (sym b.nodes) needed;
        version = v.0;
        chosen = ap (λ node. s (rules.on node)) b.nodes ∙ v.1;
        versions = b.versions;
      }
    ])

-- the law
pub Follows-excluded : {N X V R : Type 0} (rules : Rules N X V R) (same : V → V → Bool) → IsLawful rules → IsVersionEquality rules same → (earlier : List (List (NodeChoice X V))) (conflict : List (NodeChoice X V)) → ((old : List (NodeChoice X V)) → Contains earlier old → LiesInNone rules same old) → Follows rules same earlier conflict → LiesInNone rules same conflict
Follows-excluded rules same law equal earlier conflict before f = elim f [
  | inl a ↦ line-excluded rules same equal conflict a
  | inr (inl b) ↦ clash-excluded rules same equal conflict b
  | inr (inr (inl d)) ↦ differ-excluded rules same equal conflict d
  | inr (inr (inr e)) ↦ none-excluded rules same law equal earlier conflict before e
]

-- each conflict of a list that follows lies in no solution
pub EachFollows-excluded : {N X V R : Type 0} (rules : Rules N X V R) (same : V → V → Bool) → IsLawful rules → IsVersionEquality rules same → (earlier cs : List (List (NodeChoice X V))) → ((old : List (NodeChoice X V)) → Contains earlier old → LiesInNone rules same old) → EachFollows rules same earlier cs → (c : List (NodeChoice X V)) → Contains (earlier ++ cs) c → LiesInNone rules same c
EachFollows-excluded rules same law equal earlier [] before f c i = before c (subst (λ xs. Contains xs c) (append-nil earlier) i)
EachFollows-excluded rules same law equal earlier (d ∷ cs) before f c i = EachFollows-excluded rules same law equal (earlier ++ d ∷ []) cs
    (λ old k. elim (Contains-push_cases earlier d old k) [ inl a ↦ before old a | inr b ↦ subst (λ x. LiesInNone rules same x) b (Follows-excluded rules same law equal earlier d before f.0) ])
    f.1 c (subst (λ xs. Contains xs c) (sym (append_assoc earlier (d ∷ []) cs)) i)

pub list-excluded : {N X V R : Type 0} (rules : Rules N X V R) (same : V → V → Bool) → IsLawful rules → IsVersionEquality rules same → (conflicts : List (List (NodeChoice X V))) → EachFollows rules same [] conflicts → (c : List (NodeChoice X V)) → Contains conflicts c → LiesInNone rules same c
list-excluded rules same law equal conflicts f c i = EachFollows-excluded rules same law equal [] conflicts (λ old k. absurd (Contains-nil old k)) f c i

-- where the empty conflict lies in no solution, there is none
pub empty-none : {N X V R : Type 0} (rules : Rules N X V R) (same : V → V → Bool) → LiesInNone rules same [] → HasNoSolution rules
empty-none rules same h s sol = h s sol (λ c i. absurd (Contains-nil c i))

-- a refutation shows that there is no solution
pub refutation-none : {N X V R : Type 0} (rules : Rules N X V R) (same : V → V → Bool) → IsLawful rules → IsVersionEquality rules same → (conflicts : List (List (NodeChoice X V))) → IsRefutation rules same conflicts → HasNoSolution rules
refutation-none rules same law equal conflicts f =
    empty-none rules same (list-excluded rules same law equal conflicts f.each []
    (subst (λ xs. Contains xs []) (sym f.ends) (Contains-append_right f.front ([] ∷ []) [] (Contains-here [] []))))
