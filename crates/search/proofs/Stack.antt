-- What a search learns of solutions, as its frames come and go.
use Rattle.std.proofs.Common.{ℕ, suc, List, [], ◌∷◌, ◌++◌, ◌≡◌, ◌≢◌, ◌⊎◌, inl, inr, Contains, take, drop, refl, sym, ◌∙◌, ap, subst, Some, None, Option, append_assoc, append-nil}
use Rattle.lists.proofs.Members.{nat_cases, split_at, get_or-any}
use Rattle.search.proofs.PinnedMaps.{version_pinned-cons_cases, version_pinned-last, Has-front, Has-push, Needed-more, next-in_solution, complete-same}
use Rattle.search.specs.declared.parts.Frame.{Frame}
use Rattle.search.specs.FirstWalk.{IsComplete}
use Rattle.search.specs.Rules.{Rules, IsLawful}
use Rattle.search.specs.Solutions.{Pin, IsNeededName, Solution, version_pinned, IsNext, IsWalk, Has, ComesFirst, IsBetter, IsBest}
use Rattle.search.specs.Tied.Search.{pin_at, pins_of, IsFrame, IsSearch}

-- ---- the choices of a search

pub pins_of-push : (fs : List Frame) (f : Frame) → pins_of (fs ++ f ∷ []) ≡ pins_of fs ++ pin_at f ∷ []
pins_of-push [] f = refl
pins_of-push (g ∷ fs) f = ap (λ cs. pin_at g ∷ cs) (pins_of-push fs f)

pub append-step : (xs : List (Pin ℕ ℕ)) (c : Pin ℕ ℕ) (ys : List (Pin ℕ ℕ)) → (xs ++ c ∷ []) ++ ys ≡ xs ++ c ∷ ys
append-step xs c ys = append_assoc xs (c ∷ []) ys

pub IsSearch-push : (rules : Rules ℕ ℕ ℕ ℕ) (law : IsLawful rules) (before : List (Pin ℕ ℕ)) (fs : List Frame) (f : Frame) → IsSearch rules before fs → IsFrame rules (before ++ pins_of fs) f → IsSearch rules before (fs ++ f ∷ [])
IsSearch-push rules law before [] f h k = (subst (λ cs. IsFrame rules cs f) (append-nil before) k, tt)
IsSearch-push rules law before (g ∷ fs) f h k = (h.0, IsSearch-push rules law (before ++ pin_at g ∷ []) fs f h.1 (subst (λ cs. IsFrame rules cs f) (sym (append-step before (pin_at g) (pins_of fs))) k))

-- ---- the end of a search

pub IsWalk-push : (rules : Rules ℕ ℕ ℕ ℕ) (law : IsLawful rules) (before cs : List (Pin ℕ ℕ)) (c : Pin ℕ ℕ) → IsWalk rules before cs → IsNext rules (before ++ cs) c.name → IsWalk rules before (cs ++ c ∷ [])
IsWalk-push rules law before [] c h k = (subst (λ xs. IsNext rules xs c.name) (append-nil before) k, tt)
IsWalk-push rules law before (d ∷ cs) c h k = (h.0, IsWalk-push rules law (before ++ d ∷ []) cs c h.1 (subst (λ xs. IsNext rules xs c.name) (sym (append-step before d cs)) k))

first-candidate : (rules : Rules ℕ ℕ ℕ ℕ) (law : IsLawful rules) (taken : List (Pin ℕ ℕ)) (f : Frame) (t : ℕ → Option ℕ) (w : ℕ) → IsFrame rules taken f → Solution rules t → Has rules t taken → t f.name ≡ Some w → f.place ≢ w → ComesFirst (rules.candidates f.name) f.place w
first-candidate rules law taken f t w h s has e d = (
  take f.turn (rules.candidates f.name),
  drop (suc f.turn) (rules.candidates f.name),
  split_at (rules.candidates f.name) f.turn f.place h.turn ∙ ap (λ x. take f.turn (rules.candidates f.name) ++ x ∷ drop (suc f.turn) (rules.candidates f.name)) h.place,
  λ i. h.refuted t s has w i e,
  d,
)

-- a solution has the choices of a search, or is worse than what has them
pub search-compare : (rules : Rules ℕ ℕ ℕ ℕ) (law : IsLawful rules) (s t : ℕ → Option ℕ) (before : List (Pin ℕ ℕ)) (fs : List Frame) → Solution rules t → IsWalk rules [] before → IsSearch rules before fs → Has rules s (before ++ pins_of fs) → Has rules t before → Has rules t (before ++ pins_of fs) ⊎ IsBetter rules s t
search-compare rules law s t before [] sol walk search has had = inl (subst (λ cs. Has rules t cs) (sym (append-nil before)) had)
search-compare rules law s t before (f ∷ fs) sol walk search has had =
    let w : (w : ℕ) × (t f.name ≡ Some w) × Contains (rules.candidates f.name) w = next-in_solution rules law t before f.name sol had search.0.next in
    let next_has : Has rules s ((before ++ pin_at f ∷ []) ++ pins_of fs) = subst (λ cs. Has rules s cs) (sym (append-step before (pin_at f) (pins_of fs))) has in
    let chosen : s f.name ≡ Some f.place = Has-front rules s (before ++ pin_at f ∷ []) (pins_of fs) next_has f.name f.place (version_pinned-last rules.compare law.order before (pin_at f) search.0.next.free) in
    elim (nat_cases f.place w.0) [
      | inl same ↦ elim (search-compare rules law s t (before ++ pin_at f ∷ []) fs sol
          (IsWalk-push rules law [] before (pin_at f) walk search.0.next)
          search.1 next_has
          (Has-push rules law.order t before (pin_at f) had (w.1 ∙ ap (λ x. Some x) (sym same)))) [
            | inl a ↦ inl (subst (λ cs. Has rules t cs) (append-step before (pin_at f) (pins_of fs)) a)
            | inr b ↦ inr b
          ]
      | inr other ↦ inr (record {
        taken = before;
        walk = walk;
        had = Has-front rules s before (pin_at f ∷ pins_of fs) has;
        had_too = had;
        name = f.name;
        next = search.0.next;
        version = f.place;
        version_too = w.0;
        chosen = chosen;
        chosen_too = w.1;
        first = first-candidate rules law before f t w.0 search.0 sol had w.1 other;
      })
    ]

search-released : (rules : Rules ℕ ℕ ℕ ℕ) (law : IsLawful rules) (before : List (Pin ℕ ℕ)) (fs : List Frame) → IsSearch rules before fs → (n : ℕ) (v : ℕ) → version_pinned rules.compare (pins_of fs) n ≡ Some v → Contains (rules.candidates n) v
search-released rules law before [] h n v e = absurd (cc)
search-released rules law before (f ∷ fs) h n v e = elim (version_pinned-cons_cases rules.compare law.order (pin_at f) (pins_of fs) n v e) [
  | inl a ↦ subst (λ m. Contains (rules.candidates m) v) a.0 (f.turn, h.0.turn, get_or-any (rules.candidates f.name) f.turn v f.place h.0.turn ∙ h.0.place ∙ a.1)
  | inr b ↦ search-released rules law (before ++ pin_at f ∷ []) fs h.1 n v b
]

search-needed : (rules : Rules ℕ ℕ ℕ ℕ) (law : IsLawful rules) (whole : ℕ → Option ℕ) (before : List (Pin ℕ ℕ)) (fs : List Frame) → IsSearch rules before fs → Has rules whole (before ++ pins_of fs) → (n : ℕ) (v : ℕ) → version_pinned rules.compare (pins_of fs) n ≡ Some v → IsNeededName rules whole n
search-needed rules law whole before [] h has n v e = absurd (cc)
search-needed rules law whole before (f ∷ fs) h has n v e = elim (version_pinned-cons_cases rules.compare law.order (pin_at f) (pins_of fs) n v e) [
  | inl a ↦
      let k : IsNeededName rules (version_pinned rules.compare before) f.name = h.0.next.needed in
      (k.0, Needed-more rules (version_pinned rules.compare before) whole (Has-front rules whole before (pin_at f ∷ pins_of fs) has) k.0 k.1, k.2 ∙ a.0)
  | inr b ↦ search-needed rules law whole (before ++ pin_at f ∷ []) fs h.1 (subst (λ cs. Has rules whole cs) (sym (append-step before (pin_at f) (pins_of fs))) has) n v b
]

pub search-solution : (rules : Rules ℕ ℕ ℕ ℕ) (law : IsLawful rules) (fs : List Frame) → IsSearch rules [] fs → IsComplete rules (version_pinned rules.compare (pins_of fs)) → Solution rules (version_pinned rules.compare (pins_of fs))
search-solution rules law fs h c = record {
  released = search-released rules law [] fs h;
  lines_met = c.lines_met;
  dependencies_met = c.dependencies_met;
  each_needed = search-needed rules law (version_pinned rules.compare (pins_of fs)) [] fs h (λ n v e. e);
}

-- a search whose choices meet all that is required has found the best solution
pub search-best : (rules : Rules ℕ ℕ ℕ ℕ) (law : IsLawful rules) (fs : List Frame) → IsSearch rules [] fs → IsComplete rules (version_pinned rules.compare (pins_of fs)) → IsBest rules (version_pinned rules.compare (pins_of fs))
search-best rules law fs h c = record {
  solution = search-solution rules law fs h c;
  best = λ t s. elim (search-compare rules law (version_pinned rules.compare (pins_of fs)) t [] fs s tt h (λ n v e. e) (λ n v e. absurd (let k : None ≡ Some v = e in cc))) [
    | inl same ↦ inl (complete-same rules law (version_pinned rules.compare (pins_of fs)) t c same s)
    | inr better ↦ inr better
  ];
}
