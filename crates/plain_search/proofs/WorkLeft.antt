-- How deep a backtracking search goes, and how much of the tree of choices is left.
use Rattle.std.proofs.Common.{ℕ, suc, List, [], ◌∷◌, ◌++◌, ◌≡◌, ◌<◌, ◌≤◌, ◌-◌, inl, inr, Contains, length, map, refl, sym, ◌∙◌, ap, subst, subst₂, arith, Some, None, true, length-append}
use Rattle.std.proofs.lemmas.List.{length-map}
use Rattle.lists.proofs.Members.{Contains-cons_cases, Contains-nil, map-append}
use Rattle.search.proofs.Counts.{distinct-below}
use Rattle.search.proofs.PinnedMaps.{version_pinned-append_some, version_pinned-last}
use Rattle.search.proofs.WhatIsLeft.{names_of, names-below, digits_left, digits_left-push, digits_left-more, table-lawful, candidates-named, candidates-counted, base_of}
use Rattle.search.specs.declared.parts.Frame.{Frame}
use Rattle.search.specs.Rules.{Rules, IsLawful}
use Rattle.search.specs.Solutions.{version_pinned, Pin}
use Rattle.search.specs.Table.{TableParts, rules_of, candidates_of, in_range}
use Rattle.search.specs.Tied.Nodes.{Distinct}
use Rattle.search.specs.Tied.Search.{pin_at, pins_of, IsSearch, IsFrame}
use Rattle.plain_search.proofs.Steps.{IsSearch-pop}
use Rattle.plain_search.specs.Tied.Steps.{IsForward}

not_taken : (rules : Rules ℕ ℕ ℕ ℕ) (law : IsLawful rules) (before : List (Pin ℕ ℕ)) (fs : List Frame) (n : ℕ) (v : ℕ) → IsSearch rules before fs → version_pinned rules.compare before n ≡ Some v → Contains (names_of fs) n → ⊥
not_taken rules law before [] n v h e i = Contains-nil n i
not_taken rules law before (f ∷ fs) n v h e i = elim (Contains-cons_cases f.name (names_of fs) n i) [
  | inl s ↦ let k : None ≡ Some v = sym h.0.next.free ∙ ap (version_pinned rules.compare before) s ∙ e in absurd (cc)
  | inr r ↦ not_taken rules law (before ++ pin_at f ∷ []) fs n v h.1 (version_pinned-append_some rules.compare before (pin_at f ∷ []) n v e) r
]

names-distinct : (rules : Rules ℕ ℕ ℕ ℕ) (law : IsLawful rules) (before : List (Pin ℕ ℕ)) (fs : List Frame) → IsSearch rules before fs → Distinct (names_of fs)
names-distinct rules law before [] h = tt
names-distinct rules law before (f ∷ fs) h = (
  not_taken rules law (before ++ pin_at f ∷ []) fs f.name f.place h.1 (version_pinned-last rules.compare law.order before (pin_at f) h.0.next.free),
  names-distinct rules law (before ++ pin_at f ∷ []) fs h.1,
)

length-names : (fs : List Frame) → length (names_of fs) ≡ length fs
length-names [] = refl
length-names (f ∷ fs) = ap (λ n. suc n) (length-names fs)

pub search-depth : (rules : Rules ℕ ℕ ℕ ℕ) (law : IsLawful rules) (bound : ℕ) → ((n : ℕ) → 0 < length (rules.candidates n) → n < bound) → (fs : List Frame) → IsSearch rules [] fs → length fs ≤ bound
search-depth rules law bound known fs h =
    let k : length (names_of fs) ≤ bound = distinct-below bound (names_of fs) (names-distinct rules law [] fs h) (names-below rules bound known [] fs h) in
    let e = length-names fs in
    omega arith

-- ---- how much of the tree of choices is left

-- candidates behind a frame's
abbrev pub left_at : Rules ℕ ℕ ℕ ℕ → Frame → ℕ
left_at rules f = length (rules.candidates f.name) - suc f.turn

abbrev pub work_left : Rules ℕ ℕ ℕ ℕ → ℕ → ℕ → List Frame → ℕ
work_left rules base depth fs = digits_left base depth (map (left_at rules) fs)

pub work_left-push : (rules : Rules ℕ ℕ ℕ ℕ) (base depth : ℕ) (fs : List Frame) (f : Frame) → length fs < depth → suc (left_at rules f) < base → work_left rules base depth (fs ++ f ∷ []) < work_left rules base depth fs
work_left-push rules base depth fs f l b = subst (λ ds. digits_left base depth ds < work_left rules base depth fs) (sym (map-append (left_at rules) fs (f ∷ [])))
    (digits_left-push base depth (map (left_at rules) fs) (left_at rules f) (subst (λ k. k < depth) (sym (length-map fs (left_at rules))) l) b)

pub work_left-more : (rules : Rules ℕ ℕ ℕ ℕ) (base depth : ℕ) (fs : List Frame) (f g : Frame) (rest : List Frame) → 0 < base → length (fs ++ f ∷ rest) ≤ depth → left_at rules g < left_at rules f → work_left rules base depth (fs ++ g ∷ []) < work_left rules base depth (fs ++ f ∷ rest)
work_left-more rules base depth fs f g rest b l h = subst₂ (λ ds es. digits_left base depth ds < digits_left base depth es) (sym (map-append (left_at rules) fs (g ∷ []))) (sym (map-append (left_at rules) fs (f ∷ rest)))
    (digits_left-more base depth (map (left_at rules) fs) (left_at rules f) (left_at rules g) (map (left_at rules) rest) b
    (subst (λ k. k ≤ depth) (sym (ap length (sym (map-append (left_at rules) fs (f ∷ rest))) ∙ length-map (fs ++ f ∷ rest) (left_at rules))) l) h)

abbrev pub work_of : TableParts → List Frame → ℕ
work_of t fs = work_left (rules_of t) (base_of t) (length t.candidates) fs

pub candidates-bound : (t : TableParts) (n : ℕ) → length (candidates_of t n) < base_of t
candidates-bound t n = let k = candidates-counted t.candidates n in omega arith

pub depth-bound : (t : TableParts) → in_range t ≡ true → (fs : List Frame) → IsSearch (rules_of t) [] fs → length fs ≤ length t.candidates
depth-bound t known fs h = search-depth (rules_of t) (table-lawful t known) (length t.candidates) (candidates-named t.candidates) fs h

pub work-push : (p : TableParts) (known : in_range p ≡ true) (fs new : List Frame) (f : Frame) → new ≡ fs ++ f ∷ [] → IsSearch (rules_of p) [] new → work_of p new < work_of p fs
work-push p known fs new f e h =
    let d : length (fs ++ f ∷ []) ≤ length p.candidates = depth-bound p known (fs ++ f ∷ []) (subst (λ xs. IsSearch (rules_of p) [] xs) e h) in
    let l = length-append fs (f ∷ []) in
    let c = candidates-bound p f.name in
    subst (λ xs. work_of p xs < work_of p fs) (sym e) (work_left-push (rules_of p) (base_of p) (length p.candidates) fs f (omega arith) (omega arith))

pub work-forward : (p : TableParts) (known : in_range p ≡ true) (old new : List Frame) → IsForward old new → IsSearch (rules_of p) [] old → IsSearch (rules_of p) [] new → work_of p new < work_of p old
work-forward p known old new f h k =
    let d : length (f.front ++ f.last ∷ f.rest) ≤ length p.candidates = depth-bound p known (f.front ++ f.last ∷ f.rest) (subst (λ xs. IsSearch (rules_of p) [] xs) f.was h) in
    let n : IsSearch (rules_of p) [] f.front × IsFrame (rules_of p) (pins_of f.front) f.next = IsSearch-pop (rules_of p) (table-lawful p known) [] f.front f.next (subst (λ xs. IsSearch (rules_of p) [] xs) f.is k) in
    let low : f.next.turn < length (candidates_of p f.next.name) = n.1.turn in
    let same = ap (λ m. length (candidates_of p m)) f.same in
    let later = f.later in
    subst₂ (λ xs ys. work_of p xs < work_of p ys) (sym f.is) (sym f.was)
    (work_left-more (rules_of p) (base_of p) (length p.candidates) f.front f.last f.next f.rest (omega arith) d (omega arith))
