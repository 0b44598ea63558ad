-- Rules that agree on all that can be needed have one best solution.
use Rattle.std.proofs.Common.{◌≡◌, ◌∙◌, inl, inr, Bool, true, List, [], ◌∷◌, ◌++◌, Contains, Option, Some, ap, subst, sym}
use Rattle.std.proofs.lemmas.List.{append_assoc}
use Rattle.search.specs.Rules.{IsLawful, Rules}
use Rattle.search.specs.Solutions.{Has, IsBest, IsBetter, IsMet, IsNext, IsWalk, Needed, Pin, Solution, by_dependency, by_line, version_pinned}
use Rattle.search.proofs.PinnedMaps.{Has-front, Needed-more, some-inj}

-- the same rules with other answers: whether a version is admitted, and what a release wants
abbrev pub answering : {N X V R : Type 0} → Rules N X V R → (R → V → Bool) → (X → V → List R) → Rules N X V R
answering rules admits wants = record rules { admits = admits; wants = wants }

-- the answers are the same of what can be asked: by a line, or by a dependency of a release that something asked admits
pub record Agree {N X V R : Type 0} (rules : Rules N X V R) (admits : R → V → Bool) (wants : X → V → List R) (Asked : R → Type 0) : Type 0 where
  pub lines : (r : R) → Contains rules.lines r → Asked r
  pub dependencies : (r : R) (node : X) (v : V) (d : R) → Asked r → rules.on node ≡ rules.name r → rules.admits r v ≡ true → Contains (rules.wants node v) d → Asked d
  pub same_admits : (r : R) (v : V) → Asked r → rules.admits r v ≡ admits r v
  pub same_wants : (r : R) (node : X) (v : V) → Asked r → rules.on node ≡ rules.name r → rules.admits r v ≡ true → rules.wants node v ≡ wants node v

pub agree-back : {N X V R : Type 0} (rules : Rules N X V R) (admits : R → V → Bool) (wants : X → V → List R) (Asked : R → Type 0) → Agree rules admits wants Asked
    → Agree (answering rules admits wants) rules.admits rules.wants Asked
agree-back rules admits wants Asked agree = record {
  lines = agree.lines;
  dependencies = λ r node v d asked own is w.
      let here : rules.admits r v ≡ true = agree.same_admits r v asked ∙ is in
      agree.dependencies r node v d asked own here (subst (λ ds. Contains ds d) (sym (agree.same_wants r node v asked own here)) w);
  same_admits = λ r v asked. sym (agree.same_admits r v asked);
  same_wants = λ r node v asked own is. sym (agree.same_wants r node v asked own (agree.same_admits r v asked ∙ is));
}

-- ---- needed nodes

-- something asked needs the node, and is met
pub record IsReached {N X V R : Type 0} (rules : Rules N X V R) (Asked : R → Type 0) (s : N → Option V) (node : X) : Type 0 where
  pub wanted : R
  pub asked : Asked wanted
  pub own : rules.on node ≡ rules.name wanted
  pub met : IsMet rules s wanted

pub reached-admits : {N X V R : Type 0} (rules : Rules N X V R) (Asked : R → Type 0) (s : N → Option V) (node : X) (v : V) (reached : IsReached rules Asked s node) → s (rules.on node) ≡ Some v → rules.admits reached.wanted v ≡ true
reached-admits rules Asked s node v reached e =
    let same : reached.met.0 ≡ v = some-inj reached.met.0 v (sym reached.met.1 ∙ sym (ap s reached.own) ∙ e) in
    subst (λ w. rules.admits reached.wanted w ≡ true) same reached.met.2

pub reached : {N X V R : Type 0} (rules : Rules N X V R) (law : IsLawful rules) (admits : R → V → Bool) (wants : X → V → List R) (Asked : R → Type 0) (agree : Agree rules admits wants Asked)
    (s chosen : N → Option V) (solution : Solution rules s) (had : (n : N) (v : V) → chosen n ≡ Some v → s n ≡ Some v) (node : X) → Needed rules chosen node → IsReached rules Asked s node
reached rules law admits wants Asked agree s chosen solution had _ (by_line r node l i) = record { wanted = r; asked = agree.lines r l; own = law.own r node i; met = solution.lines_met r l }
reached rules law admits wants Asked agree s chosen solution had _ (by_dependency link v r node k e w i) =
    let above : IsReached rules Asked s link = reached rules law admits wants Asked agree s chosen solution had link k in
    let picked : s (rules.on link) ≡ Some v = had (rules.on link) v e in
    let is : rules.admits above.wanted v ≡ true = reached-admits rules Asked s link v above picked in record {
      wanted = r;
      asked = agree.dependencies above.wanted link v r above.asked above.own is w;
      own = law.own r node i;
      met = solution.dependencies_met link v r (Needed-more rules chosen s had link k) picked w;
    }

pub reached-wants : {N X V R : Type 0} (rules : Rules N X V R) (law : IsLawful rules) (admits : R → V → Bool) (wants : X → V → List R) (Asked : R → Type 0) (agree : Agree rules admits wants Asked)
    (s chosen : N → Option V) (solution : Solution rules s) (had : (n : N) (v : V) → chosen n ≡ Some v → s n ≡ Some v) (node : X) (v : V) → Needed rules chosen node → s (rules.on node) ≡ Some v
    → rules.wants node v ≡ wants node v
reached-wants rules law admits wants Asked agree s chosen solution had node v k e =
    let above : IsReached rules Asked s node = reached rules law admits wants Asked agree s chosen solution had node k in
    agree.same_wants above.wanted node v above.asked above.own (reached-admits rules Asked s node v above e)

pub needed-there : {N X V R : Type 0} (rules : Rules N X V R) (law : IsLawful rules) (admits : R → V → Bool) (wants : X → V → List R) (Asked : R → Type 0) (agree : Agree rules admits wants Asked)
    (s chosen : N → Option V) (solution : Solution rules s) (had : (n : N) (v : V) → chosen n ≡ Some v → s n ≡ Some v) (node : X) → Needed rules chosen node → Needed (answering rules admits wants) chosen node
needed-there rules law admits wants Asked agree s chosen solution had _ (by_line r node l i) = by_line r node l i
needed-there rules law admits wants Asked agree s chosen solution had _ (by_dependency link v r node k e w i) =
    by_dependency link v r node (needed-there rules law admits wants Asked agree s chosen solution had link k) e
    (subst (λ ds. Contains ds r) (reached-wants rules law admits wants Asked agree s chosen solution had link v k (had (rules.on link) v e)) w) i

pub needed-back : {N X V R : Type 0} (rules : Rules N X V R) (law : IsLawful rules) (admits : R → V → Bool) (wants : X → V → List R) (Asked : R → Type 0) (agree : Agree rules admits wants Asked)
    (s chosen : N → Option V) (solution : Solution rules s) (had : (n : N) (v : V) → chosen n ≡ Some v → s n ≡ Some v) (node : X) → Needed (answering rules admits wants) chosen node → Needed rules chosen node
needed-back rules law admits wants Asked agree s chosen solution had _ (by_line r node l i) = by_line r node l i
needed-back rules law admits wants Asked agree s chosen solution had _ (by_dependency link v r node k e w i) =
    let here : Needed rules chosen link = needed-back rules law admits wants Asked agree s chosen solution had link k in
    by_dependency link v r node here e (subst (λ ds. Contains ds r) (sym (reached-wants rules law admits wants Asked agree s chosen solution had link v here (had (rules.on link) v e))) w) i

-- ---- solutions

met-there : {N X V R : Type 0} (rules : Rules N X V R) (admits : R → V → Bool) (wants : X → V → List R) (Asked : R → Type 0) (agree : Agree rules admits wants Asked)
    (s : N → Option V) (r : R) → Asked r → IsMet rules s r → IsMet (answering rules admits wants) s r
met-there rules admits wants Asked agree s r asked m = (m.0, m.1, sym (agree.same_admits r m.0 asked) ∙ m.2)

pub solution-there : {N X V R : Type 0} (rules : Rules N X V R) (law : IsLawful rules) (admits : R → V → Bool) (wants : X → V → List R) (Asked : R → Type 0) (agree : Agree rules admits wants Asked)
    (s : N → Option V) → Solution rules s → Solution (answering rules admits wants) s
solution-there {N} {X} {V} {R} rules law admits wants Asked agree s solution =
    let had : (n : N) (v : V) → s n ≡ Some v → s n ≡ Some v = λ n v e. e in record {
      released = solution.released;
      lines_met = λ r l. met-there rules admits wants Asked agree s r (agree.lines r l) (solution.lines_met r l);
      dependencies_met = λ node v r k e w.
          let here : Needed rules s node = needed-back rules law admits wants Asked agree s s solution had node k in
          let above : IsReached rules Asked s node = reached rules law admits wants Asked agree s s solution had node here in
          let is : rules.admits above.wanted v ≡ true = reached-admits rules Asked s node v above e in
          let wanted : Contains (rules.wants node v) r = subst (λ ds. Contains ds r) (sym (agree.same_wants above.wanted node v above.asked above.own is)) w in
          met-there rules admits wants Asked agree s r (agree.dependencies above.wanted node v r above.asked above.own is wanted) (solution.dependencies_met node v r here e wanted);
      each_needed = λ n v e.
          let k : (node : X) × Needed rules s node × (rules.on node ≡ n) = solution.each_needed n v e in
          (k.0, needed-there rules law admits wants Asked agree s s solution had k.0 k.1, k.2);
    }

-- ---- walks

next-there : {N X V R : Type 0} (rules : Rules N X V R) (law : IsLawful rules) (admits : R → V → Bool) (wants : X → V → List R) (Asked : R → Type 0) (agree : Agree rules admits wants Asked)
    (s : N → Option V) (solution : Solution rules s) (taken : List (Pin N V)) (n : N) → Has rules s taken → IsNext rules taken n → IsNext (answering rules admits wants) taken n
next-there {N} {X} {V} {R} rules law admits wants Asked agree s solution taken n had next = record {
  needed = (next.needed.0, needed-there rules law admits wants Asked agree s (version_pinned rules.compare taken) solution had next.needed.0 next.needed.1, next.needed.2);
  free = next.free;
  least = λ m k free. next.least m (k.0, needed-back rules law admits wants Asked agree s (version_pinned rules.compare taken) solution had k.0 k.1, k.2) free;
}

walk-there : {N X V R : Type 0} (rules : Rules N X V R) (law : IsLawful rules) (admits : R → V → Bool) (wants : X → V → List R) (Asked : R → Type 0) (agree : Agree rules admits wants Asked)
    (s : N → Option V) (solution : Solution rules s) (before ps : List (Pin N V)) → Has rules s (before ++ ps) → IsWalk rules before ps → IsWalk (answering rules admits wants) before ps
walk-there rules law admits wants Asked agree s solution before [] had walk = tt
walk-there rules law admits wants Asked agree s solution before (p ∷ ps) had walk = (
  next-there rules law admits wants Asked agree s solution before p.name (Has-front rules s before (p ∷ ps) had) walk.0,
  walk-there rules law admits wants Asked agree s solution (before ++ p ∷ []) ps (subst (Has rules s) (sym (append_assoc before (p ∷ []) ps)) had) walk.1,
)

better-there : {N X V R : Type 0} (rules : Rules N X V R) (law : IsLawful rules) (admits : R → V → Bool) (wants : X → V → List R) (Asked : R → Type 0) (agree : Agree rules admits wants Asked)
    (s t : N → Option V) → Solution rules s → IsBetter rules s t → IsBetter (answering rules admits wants) s t
better-there rules law admits wants Asked agree s t solution better = record {
  taken = better.taken;
  walk = walk-there rules law admits wants Asked agree s solution [] better.taken better.had better.walk;
  had = better.had;
  had_too = better.had_too;
  name = better.name;
  next = next-there rules law admits wants Asked agree s solution better.taken better.name better.had better.next;
  version = better.version;
  version_too = better.version_too;
  chosen = better.chosen;
  chosen_too = better.chosen_too;
  first = better.first;
}

-- ---- the best solution

pub law-there : {N X V R : Type 0} (rules : Rules N X V R) (admits : R → V → Bool) (wants : X → V → List R) → IsLawful rules → IsLawful (answering rules admits wants)
law-there rules admits wants law = record { order = law.order; some = law.some; own = law.own }

pub best-there : {N X V R : Type 0} (rules : Rules N X V R) (law : IsLawful rules) (admits : R → V → Bool) (wants : X → V → List R) (Asked : R → Type 0) (agree : Agree rules admits wants Asked)
    (s : N → Option V) → IsBest rules s → IsBest (answering rules admits wants) s
best-there rules law admits wants Asked agree s best = record {
  solution = solution-there rules law admits wants Asked agree s best.solution;
  best = λ t k. elim (best.best t (solution-there (answering rules admits wants) (law-there rules admits wants law) rules.admits rules.wants Asked (agree-back rules admits wants Asked agree) t k)) [
    | inl same ↦ inl same
    | inr better ↦ inr (better-there rules law admits wants Asked agree s t best.solution better)
  ];
}

pub best-back : {N X V R : Type 0} (rules : Rules N X V R) (law : IsLawful rules) (admits : R → V → Bool) (wants : X → V → List R) (Asked : R → Type 0) (agree : Agree rules admits wants Asked)
    (s : N → Option V) → IsBest (answering rules admits wants) s → IsBest rules s
best-back rules law admits wants Asked agree s best =
    best-there (answering rules admits wants) (law-there rules admits wants law) rules.admits rules.wants Asked (agree-back rules admits wants Asked agree) s best
