-- What the steps of a search keep.
use Rattle.std.proofs.Common.{ℕ, List, [], ◌∷◌, ◌++◌, ◌≡◌, ◌<◌, ◌+◌, ◌-◌, length, get_or, refl, sym, ◌∙◌, ap, subst, subst₂, arith, Some, None, true, false, append_assoc, append-nil, add-one, length-append}
use Rattle.lists.proofs.Members.{Contains-take_zero}
use Rattle.search.proofs.Stack.{append-step, IsSearch-push, pins_of-push}
use Rattle.plain_search.proofs.Refuted.{Refutes-more, IsRefuted-exhausted}
use Rattle.search.proofs.WhatIsLeft.{table-lawful}
use Rattle.search.specs.declared.parts.Frame.{Frame}
use Rattle.search.specs.Rules.{Rules, IsLawful}
use Rattle.search.specs.Tied.Search.{pin_at, pins_of, IsFrame, IsSearch, IsRefuted, Refutes}
use Rattle.search.specs.Solutions.{Pin, IsNext, HasNoSolution}
use Rattle.plain_search.specs.Tied.Steps.{IsAt, IsTried, IsForward}
use Rattle.search.specs.Table.{TableParts, rules_of, candidates_of, in_range}

pub IsSearch-pop : (rules : Rules ℕ ℕ ℕ ℕ) (law : IsLawful rules) (before : List (Pin ℕ ℕ)) (fs : List Frame) (f : Frame) → IsSearch rules before (fs ++ f ∷ []) → IsSearch rules before fs × IsFrame rules (before ++ pins_of fs) f
IsSearch-pop rules law before [] f h = (tt, subst (λ cs. IsFrame rules cs f) (sym (append-nil before)) h.0)
IsSearch-pop rules law before (g ∷ fs) f h =
    let k : IsSearch rules (before ++ pin_at g ∷ []) fs × IsFrame rules ((before ++ pin_at g ∷ []) ++ pins_of fs) f = IsSearch-pop rules law (before ++ pin_at g ∷ []) fs f h.1 in
    ((h.0, k.0), subst (λ cs. IsFrame rules cs f) (append-step before (pin_at g) (pins_of fs)) k.1)

frame-at : (p : TableParts) (taken : List (Pin ℕ ℕ)) (n k : ℕ) (f : Frame) → IsAt p n k f → IsNext (rules_of p) taken n → Refutes (rules_of p) taken n k → IsFrame (rules_of p) taken f
frame-at p taken n k f h next bad = record {
  next = subst (λ m. IsNext (rules_of p) taken m) (sym h.named) next;
  turn = subst₂ (λ m i. i < length (candidates_of p m)) (sym h.named) (sym h.turned) h.within;
  place = subst₂ (λ m i. get_or (candidates_of p m) i f.place ≡ f.place) (sym h.named) (sym h.turned) (sym h.place);
  refuted = subst₂ (λ m i. Refutes (rules_of p) taken m i) (sym h.named) (sym h.turned) bad;
}

pub tried-first : (p : TableParts) (known : in_range p ≡ true) (fs new : List Frame) (n : ℕ) → IsSearch (rules_of p) [] fs → IsNext (rules_of p) (pins_of fs) n → IsTried p n 0 fs new true → (f : Frame) × (new ≡ fs ++ f ∷ []) × IsSearch (rules_of p) [] new
tried-first p known fs new n h next t = (
  t.0,
  t.2,
  subst (λ xs. IsSearch (rules_of p) [] xs) (sym t.2)
      (IsSearch-push (rules_of p) (table-lawful p known) [] fs t.0 h (frame-at p (pins_of fs) n 0 t.0 t.1 next (λ s sol has w i e. Contains-take_zero (candidates_of p n) w i))),
)

pub tried-none : (p : TableParts) (known : in_range p ≡ true) (fs new : List Frame) (n : ℕ) → IsNext (rules_of p) (pins_of fs) n → IsTried p n 0 fs new false → IsRefuted (rules_of p) (pins_of fs)
tried-none p known fs new n next t = IsRefuted-exhausted (rules_of p) (table-lawful p known) (pins_of fs) n 0 next (λ s sol has w i e. Contains-take_zero (candidates_of p n) w i) t.1

popped : (p : TableParts) (known : in_range p ≡ true) (fs : List Frame) (last : Frame) → IsSearch (rules_of p) [] (fs ++ last ∷ []) → IsRefuted (rules_of p) (pins_of (fs ++ last ∷ [])) → IsSearch (rules_of p) [] fs × IsFrame (rules_of p) (pins_of fs) last × Refutes (rules_of p) (pins_of fs) last.name (last.turn + 1)
popped p known fs last h bad =
    let k : IsSearch (rules_of p) [] fs × IsFrame (rules_of p) (pins_of fs) last = IsSearch-pop (rules_of p) (table-lawful p known) [] fs last h in
    (k.0, k.1, rw add-one (Refutes-more (rules_of p) (table-lawful p known) (pins_of fs) last k.1 (subst (λ cs. IsRefuted (rules_of p) cs) (pins_of-push fs last) bad)))

pub retreat-found : (p : TableParts) (known : in_range p ≡ true) (fs new : List Frame) (last : Frame) → IsSearch (rules_of p) [] (fs ++ last ∷ []) → IsRefuted (rules_of p) (pins_of (fs ++ last ∷ [])) → IsTried p last.name (last.turn + 1) fs new true → IsSearch (rules_of p) [] new
retreat-found p known fs new last h bad t =
    let k : IsSearch (rules_of p) [] fs × IsFrame (rules_of p) (pins_of fs) last × Refutes (rules_of p) (pins_of fs) last.name (last.turn + 1) = popped p known fs last h bad in
    subst (λ xs. IsSearch (rules_of p) [] xs) (sym t.2) (IsSearch-push (rules_of p) (table-lawful p known) [] fs t.0 k.0 (frame-at p (pins_of fs) last.name (last.turn + 1) t.0 t.1 k.1.next k.2))

pub retreat-forward : (p : TableParts) (old fs new : List Frame) (last : Frame) (rest : List Frame) → old ≡ (fs ++ last ∷ []) ++ rest → IsTried p last.name (last.turn + 1) fs new true → IsForward old new
retreat-forward p old fs new last rest e t = record {
  front = fs;
  last = last;
  next = t.0;
  rest = rest;
  was = e ∙ append_assoc fs (last ∷ []) rest;
  is = t.2;
  same = t.1.named;
  later = t.1.turned;
}

pub retreat-none : (p : TableParts) (known : in_range p ≡ true) (fs new : List Frame) (last : Frame) → IsSearch (rules_of p) [] (fs ++ last ∷ []) → IsRefuted (rules_of p) (pins_of (fs ++ last ∷ [])) → IsTried p last.name (last.turn + 1) fs new false → IsSearch (rules_of p) [] new × IsRefuted (rules_of p) (pins_of new)
retreat-none p known fs new last h bad t =
    let k : IsSearch (rules_of p) [] fs × IsFrame (rules_of p) (pins_of fs) last × Refutes (rules_of p) (pins_of fs) last.name (last.turn + 1) = popped p known fs last h bad in (
      subst (λ xs. IsSearch (rules_of p) [] xs) (sym t.0) k.0,
      subst (λ xs. IsRefuted (rules_of p) (pins_of xs)) (sym t.0) (IsRefuted-exhausted (rules_of p) (table-lawful p known) (pins_of fs) last.name (last.turn + 1) k.1.next k.2 t.1),
    )

pub refuted-none : (p : TableParts) → IsRefuted (rules_of p) [] → HasNoSolution (rules_of p)
refuted-none p h s sol = h s sol (λ n v e. absurd (let k : None ≡ Some v = e in cc))

last-step : (fs : List Frame) (f d : Frame) → get_or (fs ++ f ∷ []) (length fs) d ≡ f
last-step [] f d = refl
last-step (g ∷ fs) f d = last-step fs f d

-- the last of a list that was pushed to
pub last-pushed : (fs xs : List Frame) (f d : Frame) → xs ≡ fs ++ f ∷ [] → get_or xs (length xs - 1) d ≡ f
last-pushed fs xs f d e =
    let l : length xs - 1 ≡ length fs = let k = ap length e in omega (arith, k, length-append fs (f ∷ [])) in
    ap (λ k. get_or xs k d) l ∙ ap (λ ys. get_or ys (length fs) d) e ∙ last-step fs f d

-- what was pushed is the last of the frames
pub entered-is : (t : TableParts) (fs xs ys : List Frame) (n : ℕ) (g : Frame) → (h : IsTried t n 0 fs xs true) → ys ≡ xs → g ≡ get_or ys (length ys - 1) g → g ≡ h.0
entered-is t fs xs ys n g h e i = i ∙ ap (λ zs. get_or zs (length zs - 1) g) e ∙ last-pushed fs xs h.0 g h.2
