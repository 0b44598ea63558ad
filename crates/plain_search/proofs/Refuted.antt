-- What shows that no solution has what is taken.
use Rattle.std.proofs.Common.{ℕ, suc, List, [], ◌∷◌, ◌++◌, ◌≡◌, ◌≤◌, ◌⊎◌, inl, inr, Contains, length, refl, sym, ◌∙◌, ap, subst, Some, None, Option, Bool, true, false, not, ◌||◌}
use Rattle.std.specs.List.{list_any}
use Rattle.lists.proofs.Members.{Contains-here, Contains-there, Contains-take_suc, take-whole}
use Rattle.search.proofs.PinnedMaps.{Has-push, Needed-more, next-in_solution, some-inj}
use Rattle.search.specs.declared.parts.Frame.{Frame}
use Rattle.search.specs.Rules.{Rules, IsLawful}
use Rattle.search.specs.Solutions.{Needed, IsMet, IsNext, Pin, version_pinned}
use Rattle.search.specs.Tied.Search.{IsFrame, IsRefuted, AreRequired, Refutes, clash_at, clash_in, pin_at}

-- what is taken contradicts a requirement that counts, so no solution has it
pub clash-line : {N X V R : Type 0} (rules : Rules N X V R) (taken : List (Pin N V)) (r : R) (w : V) → Contains rules.lines r → version_pinned rules.compare taken (rules.name r) ≡ Some w → rules.admits r w ≡ false → IsRefuted rules taken
clash-line {N} {X} {V} rules taken r w l e bad t s h =
    let m : IsMet rules t r = s.lines_met r l in
    let v : m.0 ≡ w = some-inj m.0 w (sym m.1 ∙ h (rules.name r) w e) in
    let k : rules.admits r w ≡ true = subst (λ x. rules.admits r x ≡ true) v m.2 in
    absurd (cc)

pub clash-dependency : {N X V R : Type 0} (rules : Rules N X V R) (taken : List (Pin N V)) (node : X) (v : V) (r : R) (w : V) → Needed rules (version_pinned rules.compare taken) node → version_pinned rules.compare taken (rules.on node) ≡ Some v → Contains (rules.wants node v) r → version_pinned rules.compare taken (rules.name r) ≡ Some w → rules.admits r w ≡ false → IsRefuted rules taken
clash-dependency {N} {X} {V} rules taken node v r w k e want f bad t s h =
    let m : IsMet rules t r = s.dependencies_met node v r (Needed-more rules (version_pinned rules.compare taken) t h node k) (h (rules.on node) v e) want in
    let v : m.0 ≡ w = some-inj m.0 w (sym m.1 ∙ h (rules.name r) w f) in
    let k : rules.admits r w ≡ true = subst (λ x. rules.admits r x ≡ true) v m.2 in
    absurd (cc)

or-true : (a b : Bool) → (a || b) ≡ true → (a ≡ true) ⊎ (b ≡ true)
or-true true b h = inl refl
or-true false b h = inr h

not-true : (b : Bool) → not b ≡ true → b ≡ false
not-true true h = absurd (cc)
not-true false h = refl

any-true : {X : Type 0} (p : X → Bool) (xs : List X) → list_any p xs ≡ true → (x : X) × Contains xs x × (p x ≡ true)
any-true p [] h = absurd (cc)
any-true p (x ∷ xs) h = elim (or-true (p x) (list_any p xs) h) [
  | inl a ↦ (x, Contains-here x xs, a)
  | inr b ↦ let k : (y : _) × Contains xs y × (p y ≡ true) = any-true p xs b in (k.0, Contains-there x xs k.0 k.1, k.2)
]

clash_at-true : (rules : Rules ℕ ℕ ℕ ℕ) (r : ℕ) (o : Option ℕ) → clash_at rules r o ≡ true → (w : ℕ) × (o ≡ Some w) × (rules.admits r w ≡ false)
clash_at-true rules r None h = absurd (cc)
clash_at-true rules r (Some w) h = (w, refl, not-true (rules.admits r w) h)

-- where something that is required clashes, no solution has what is taken
pub required-refuted : (rules : Rules ℕ ℕ ℕ ℕ) (taken : List (Pin ℕ ℕ)) (required : List ℕ) → AreRequired rules (version_pinned rules.compare taken) required → list_any (clash_in rules (version_pinned rules.compare taken)) required ≡ true → IsRefuted rules taken
required-refuted rules taken required a h =
    let chosen : ℕ → Option ℕ = version_pinned rules.compare taken in
    let r : (r : ℕ) × Contains required r × (clash_in rules chosen r ≡ true) = any-true (clash_in rules chosen) required h in
    let w : (w : ℕ) × (chosen (rules.name r.0) ≡ Some w) × (rules.admits r.0 w ≡ false) = clash_at-true rules r.0 (chosen (rules.name r.0)) r.2 in
    elim (a.sound r.0 r.1) [
      | inl l ↦ clash-line rules taken r.0 w.0 l w.1 w.2
      | inr k ↦ clash-dependency rules taken k.0 k.1 r.0 w.0 k.2 k.3 k.4 w.1 w.2
    ]

-- a frame whose choice is refuted refutes one candidate more
pub Refutes-more : (rules : Rules ℕ ℕ ℕ ℕ) (law : IsLawful rules) (taken : List (Pin ℕ ℕ)) (f : Frame) → IsFrame rules taken f → IsRefuted rules (taken ++ pin_at f ∷ []) → Refutes rules taken f.name (suc f.turn)
Refutes-more rules law taken f h bad t s has w i e = elim (Contains-take_suc (rules.candidates f.name) f.turn f.place w h.turn i) [
  | inl low ↦ h.refuted t s has w low e
  | inr here ↦ bad t s (Has-push rules law.order t taken (pin_at f) has (e ∙ ap (λ x. Some x) (sym here ∙ h.place)))
]

pub IsRefuted-exhausted : (rules : Rules ℕ ℕ ℕ ℕ) (law : IsLawful rules) (taken : List (Pin ℕ ℕ)) (n : ℕ) (k : ℕ) → IsNext rules taken n → Refutes rules taken n k → length (rules.candidates n) ≤ k → IsRefuted rules taken
IsRefuted-exhausted rules law taken n k next bad l t s has =
    let w : (w : ℕ) × (t n ≡ Some w) × Contains (rules.candidates n) w = next-in_solution rules law t taken n s has next in
    bad t s has w.0 (subst (λ xs. Contains xs w.0) (sym (take-whole (rules.candidates n) k l)) w.2) w.1
