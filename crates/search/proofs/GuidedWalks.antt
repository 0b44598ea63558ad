-- A walk that takes at each name the first candidate that is not excluded has the best solution where it meets all that is required.
use Rattle.std.proofs.Common.{List, [], ◌∷◌, ◌++◌, ◌≡◌, ◌⊎◌, inl, inr, Contains, sym, ◌∙◌, ap, subst, Some, None, Option, append_assoc, append-nil}
use Rattle.std.proofs.lemmas.List.Elements.{Contains-append_cases, Contains-append_right}
use Rattle.lists.proofs.Members.{Contains-cons_cases, Contains-here}
use Rattle.search.proofs.PinnedMaps.{version_pinned-cons_cases, version_pinned-last, Has-front, Has-push, Needed-more, next-in_solution, complete-same}
use Rattle.search.specs.FirstWalk.{IsFirst, IsComplete}
use Rattle.search.specs.GuidedWalk.{IsExcluded, IsGuidedWalk}
use Rattle.search.specs.Rules.{Rules, IsLawful}
use Rattle.search.specs.Solutions.{Pin, IsNeededName, Solution, version_pinned, IsNext, IsWalk, Has, IsBetter, IsBest}

behind-one : {N V : Type 0} (xs : List (Pin N V)) (p : Pin N V) (ys : List (Pin N V)) → (xs ++ p ∷ []) ++ ys ≡ xs ++ p ∷ ys
behind-one xs p ys = append_assoc xs (p ∷ []) ys

walk-push : {N X V R : Type 0} (rules : Rules N X V R) (before ps : List (Pin N V)) (p : Pin N V) → IsWalk rules before ps → IsNext rules (before ++ ps) p.name → IsWalk rules before (ps ++ p ∷ [])
walk-push rules before [] p h k = (subst (λ xs. IsNext rules xs p.name) (append-nil before) k, tt)
walk-push rules before (q ∷ ps) p h k = (h.0, walk-push rules (before ++ q ∷ []) ps p h.1 (subst (λ xs. IsNext rules xs p.name) (sym (behind-one before q ps)) k))

-- a solution has the pins of the walk, or is worse than what has them
walk-compare : {N X V R : Type 0} (rules : Rules N X V R) (law : IsLawful rules) (s t : N → Option V) (before ps : List (Pin N V)) → Solution rules t → IsWalk rules [] before → IsGuidedWalk rules before ps → Has rules s (before ++ ps) → Has rules t before → Has rules t (before ++ ps) ⊎ IsBetter rules s t
walk-compare rules law s t before [] sol walk first has had = inl (subst (λ ps. Has rules t ps) (sym (append-nil before)) had)
walk-compare {N} {X} {V} {R} rules law s t before (p ∷ ps) sol walk first has had =
    let w : (w : V) × (t p.name ≡ Some w) × Contains (rules.candidates p.name) w = next-in_solution rules law t before p.name sol had first.0.0 in
    let next_has : Has rules s ((before ++ p ∷ []) ++ ps) = subst (λ qs. Has rules s qs) (sym (behind-one before p ps)) has in
    let chosen : s p.name ≡ Some p.version = Has-front rules s (before ++ p ∷ []) ps next_has p.name p.version (version_pinned-last rules.compare law.order before p first.0.0.free) in
    let pin : IsFirst rules (IsExcluded rules before p.name) p.name p.version = first.0.1 in
    elim (Contains-append_cases pin.front (p.version ∷ pin.back) w.0 (subst (λ vs. Contains vs w.0) pin.listed w.2)) [
      | inl front ↦ absurd (pin.before w.0 front t sol had w.1)
      | inr onward ↦ elim (Contains-cons_cases p.version pin.back w.0 onward) [
        | inl same ↦ elim (walk-compare rules law s t (before ++ p ∷ []) ps sol
            (walk-push rules [] before p walk first.0.0)
            first.1 next_has
            (Has-push rules law.order t before p had (w.1 ∙ ap (λ x. Some x) (sym same)))) [
              | inl a ↦ inl (subst (λ qs. Has rules t qs) (behind-one before p ps) a)
              | inr b ↦ inr b
            ]
        | inr behind ↦ inr (record {
          taken = before;
          walk = walk;
          had = Has-front rules s before (p ∷ ps) has;
          had_too = had;
          name = p.name;
          next = first.0.0;
          version = p.version;
          version_too = w.0;
          chosen = chosen;
          chosen_too = w.1;
          first = (
            pin.front,
            pin.back,
            pin.listed,
            λ i. pin.before w.0 i t sol had w.1,
            λ e. pin.once (subst (λ x. Contains pin.back x) (sym e) behind),
          );
        })
      ]
    ]

walk-released : {N X V R : Type 0} (rules : Rules N X V R) (law : IsLawful rules) (before ps : List (Pin N V)) → IsGuidedWalk rules before ps → (n : N) (v : V) → version_pinned rules.compare ps n ≡ Some v → Contains (rules.candidates n) v
walk-released rules law before [] h n v e = absurd (cc)
walk-released {N} {X} {V} {R} rules law before (p ∷ ps) h n v e = elim (version_pinned-cons_cases rules.compare law.order p ps n v e) [
  | inl a ↦
      let pin : IsFirst rules (IsExcluded rules before p.name) p.name p.version = h.0.1 in
      let there : Contains (rules.candidates p.name) p.version = subst (λ vs. Contains vs p.version) (sym pin.listed) (Contains-append_right pin.front (p.version ∷ pin.back) p.version (Contains-here p.version pin.back)) in
      subst (λ x. Contains (rules.candidates n) x) a.1 (subst (λ m. Contains (rules.candidates m) p.version) a.0 there)
  | inr b ↦ walk-released rules law (before ++ p ∷ []) ps h.1 n v b
]

walk-needed : {N X V R : Type 0} (rules : Rules N X V R) (law : IsLawful rules) (whole : N → Option V) (before ps : List (Pin N V)) → IsGuidedWalk rules before ps → Has rules whole (before ++ ps) → (n : N) (v : V) → version_pinned rules.compare ps n ≡ Some v → IsNeededName rules whole n
walk-needed rules law whole before [] h has n v e = absurd (cc)
walk-needed {N} {X} {V} {R} rules law whole before (p ∷ ps) h has n v e = elim (version_pinned-cons_cases rules.compare law.order p ps n v e) [
  | inl a ↦
      let k : IsNeededName rules (version_pinned rules.compare before) p.name = h.0.0.needed in
      (k.0, Needed-more rules (version_pinned rules.compare before) whole (Has-front rules whole before (p ∷ ps) has) k.0 k.1, k.2 ∙ a.0)
  | inr b ↦ walk-needed rules law whole (before ++ p ∷ []) ps h.1 (subst (λ qs. Has rules whole qs) (sym (behind-one before p ps)) has) n v b
]

pub guided-best : {N X V R : Type 0} (rules : Rules N X V R) → IsLawful rules → (ps : List (Pin N V)) → IsGuidedWalk rules [] ps → IsComplete rules (version_pinned rules.compare ps) → IsBest rules (version_pinned rules.compare ps)
guided-best {N} {X} {V} {R} rules law ps h c = record {
  solution = record {
    released = walk-released rules law [] ps h;
    lines_met = c.lines_met;
    dependencies_met = c.dependencies_met;
    each_needed = walk-needed rules law (version_pinned rules.compare ps) [] ps h (λ n v e. e);
  };
  best = λ t s. elim (walk-compare rules law (version_pinned rules.compare ps) t [] ps s tt h (λ n v e. e) (λ n v e. absurd (let k : None ≡ Some v = e in cc))) [
    | inl same ↦ inl (complete-same rules law (version_pinned rules.compare ps) t c same s)
    | inr better ↦ inr better
  ];
}
