-- What a clash, or no clash, says of the choices.
use Rattle.std.proofs.Common.{ℕ, zero, suc, ◌<◌, ◌≤◌, ◌+◌, length, take, get_or, arith, add-one, List, [], ◌∷◌, ◌≡◌, inl, inr, Contains, refl, sym, ◌∙◌, ap, subst, Some, None, Option, Bool, true, false, not, ◌||◌}
use Rattle.std.specs.List.{list_any}
use Rattle.lists.proofs.Members.{Contains-cons_cases, Contains-nil, take-whole}
use Rattle.search.specs.FirstWalk.{IsComplete}
use Rattle.search.specs.Rules.{Rules, IsLawful}
use Rattle.search.specs.Solutions.{Needed, by_line, by_dependency}
use Rattle.search.specs.Tied.Search.{AllFit, AreNeeded, AreRequired, NoneFree, clash_at, clash_in}

or-false : (a b : Bool) → (a || b) ≡ false → (a ≡ false) × (b ≡ false)
or-false true b h = absurd (cc)
or-false false b h = (refl, h)

not-false : (b : Bool) → not b ≡ false → b ≡ true
not-false true h = refl
not-false false h = absurd (cc)

pub any-false : {X : Type 0} (p : X → Bool) (xs : List X) (x : X) → list_any p xs ≡ false → Contains xs x → p x ≡ false
any-false p [] x h i = absurd (Contains-nil x i)
any-false p (y ∷ xs) x h i =
    let k : (p y ≡ false) × (list_any p xs ≡ false) = or-false (p y) (list_any p xs) h in
    elim (Contains-cons_cases y xs x i) [ inl e ↦ subst (λ z. p z ≡ false) e k.0 | inr r ↦ any-false p xs x k.1 r ]

clash_at-false : (rules : Rules ℕ ℕ ℕ ℕ) (r : ℕ) (o : Option ℕ) (w : ℕ) → clash_at rules r o ≡ false → o ≡ Some w → rules.admits r w ≡ true
clash_at-false rules r None w h e = absurd (cc)
clash_at-false rules r (Some v) w h e = let k : v ≡ w = cc in subst (λ x. rules.admits r x ≡ true) k (not-false (rules.admits r v) h)

-- where nothing does, all that counts is met as far as it is taken
pub required-fits : (rules : Rules ℕ ℕ ℕ ℕ) (chosen : ℕ → Option ℕ) (required : List ℕ) → AreRequired rules chosen required → list_any (clash_in rules chosen) required ≡ false → AllFit rules chosen
required-fits rules chosen required a h = record {
  lines = λ r i w e. clash_at-false rules r (chosen (rules.name r)) w (any-false (clash_in rules chosen) required r h (a.whole r (inl i))) e;
  dependencies = λ node v r n at i w e. clash_at-false rules r (chosen (rules.name r)) w (any-false (clash_in rules chosen) required r h (a.whole r (inr (node, v, n, at, i)))) e;
}

option_not_none : (o : Option ℕ) → (o ≡ None → ⊥) → (w : ℕ) × (o ≡ Some w)
option_not_none None h = absurd (h refl)
option_not_none (Some w) h = (w, refl)

-- where nothing clashes and no needed name is left, all is met
pub fits-complete : (rules : Rules ℕ ℕ ℕ ℕ) → IsLawful rules → (chosen : ℕ → Option ℕ) (nodes : List ℕ) → AreNeeded rules chosen nodes → AllFit rules chosen → NoneFree rules chosen nodes → IsComplete rules chosen
fits-complete rules law chosen nodes a f none = record {
  lines_met = λ r i.
      let own : (x : ℕ) × Contains (rules.nodes r) x = law.some r in
      let n : Needed rules chosen own.0 = by_line r own.0 i own.1 in
      let w : (w : ℕ) × (chosen (rules.on own.0) ≡ Some w) = option_not_none (chosen (rules.on own.0)) (none own.0 (a.whole own.0 n)) in
      let at : chosen (rules.name r) ≡ Some w.0 = sym (ap chosen (law.own r own.0 own.1)) ∙ w.1 in
      (w.0, at, f.lines r i w.0 at);
  dependencies_met = λ node v r k e i.
      let own : (x : ℕ) × Contains (rules.nodes r) x = law.some r in
      let n : Needed rules chosen own.0 = by_dependency node v r own.0 k e i own.1 in
      let w : (w : ℕ) × (chosen (rules.on own.0) ≡ Some w) = option_not_none (chosen (rules.on own.0)) (none own.0 (a.whole own.0 n)) in
      let at : chosen (rules.name r) ≡ Some w.0 = sym (ap chosen (law.own r own.0 own.1)) ∙ w.1 in
      (w.0, at, f.dependencies node v r k e i w.0 at);
}

-- ---- a loop that looks for a clash

or-of-false : (a b : Bool) → a ≡ false → b ≡ false → (a || b) ≡ false
or-of-false true b h k = absurd (cc)
or-of-false false b h k = k

or-of-true : (a b : Bool) → b ≡ true → (a || b) ≡ true
or-of-true true b h = refl
or-of-true false b h = h

none-taken : (p : ℕ → Bool) (xs : List ℕ) → list_any p (take 0 xs) ≡ false
none-taken p [] = refl
none-taken p (x ∷ xs) = refl

any-step : (p : ℕ → Bool) (xs : List ℕ) (i : ℕ) → i < length xs → list_any p (take i xs) ≡ false → p (get_or xs i 0) ≡ false → list_any p (take (suc i) xs) ≡ false
any-step p [] i l h k = absurd (omega arith)
any-step p (x ∷ xs) zero l h k = or-of-false (p x) (list_any p (take 0 xs)) k (none-taken p xs)
any-step p (x ∷ xs) (suc i) l h k =
    let both : (p x ≡ false) × (list_any p (take i xs) ≡ false) = or-false (p x) (list_any p (take i xs)) h in
    or-of-false (p x) (list_any p (take (suc i) xs)) both.0 (any-step p xs i (omega arith) both.1 k)

pub any-more : (p : ℕ → Bool) (xs : List ℕ) (i : ℕ) → i < length xs → list_any p (take i xs) ≡ false → p (get_or xs i 0) ≡ false → list_any p (take (i + 1) xs) ≡ false
any-more p xs i l h k = rw add-one (any-step p xs i l h k)

pub any-found : (p : ℕ → Bool) (xs : List ℕ) (i : ℕ) → i < length xs → p (get_or xs i 0) ≡ true → list_any p xs ≡ true
any-found p [] i l k = absurd (omega arith)
any-found p (x ∷ xs) zero l k = subst (λ b. (b || list_any p xs) ≡ true) (sym k) refl
any-found p (x ∷ xs) (suc i) l k = or-of-true (p x) (list_any p xs) (any-found p xs i (omega arith) k)

pub any-none : (p : ℕ → Bool) (xs : List ℕ) (i : ℕ) → length xs ≤ i → list_any p (take i xs) ≡ false → list_any p xs ≡ false
any-none p xs i l h = subst (λ ys. list_any p ys ≡ false) (take-whole xs i l) h
