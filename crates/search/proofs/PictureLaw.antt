-- A best solution of a table stands for the best solution.
use Rattle.std.proofs.Common.{ℕ, List, [], ◌∷◌, ◌++◌, ◌≡◌, ◌≢◌, ◌<◌, ◌≤◌, ◌⊎◌, inl, inr, Contains, length, map, refl, sym, ◌∙◌, ap, subst, arith, Some, None, Option, Bool, true, false, cond, Greater, append_assoc}
use Rattle.std.specs.Ordering.{nat_cmp, is_eq}
use Rattle.std.proofs.lemmas.List.Elements.{Contains-append_left}
use Rattle.search.proofs.Least.{nat-order}
use Rattle.lists.proofs.Members.{map-append, Contains-here, Contains-there, Contains-cons_cases, Contains-nil, Contains-map}
use Rattle.search.proofs.PictureFacts.{image, image-some, image-none, IsAlike, AreNamed, IsStoodFor, candidate-known, needed-up, needed-down, solution-up, solution-down}
use Rattle.search.proofs.Ranges.{name-known}
use Rattle.search.proofs.TakenFacts.{IsListed, listed, listed-all, split-nat}
use Rattle.search.proofs.PinnedMaps.{pin-member, option_cases, some-inj, is_eq-same, is_eq-self, Has-front}
use Rattle.search.specs.declared.parts.TableChoice.{TableChoice}
use Rattle.search.specs.Picture.{Picture, IsPicture, pin_pictured, pictured}
use Rattle.search.specs.Rules.{Rules, IsOrder}
use Rattle.search.specs.Solutions.{Needed, IsNeededName, Solution, Pin, version_pinned, IsNext, IsWalk, Has, ComesFirst, IsBetter, IsBest, HasNoSolution}
use Rattle.search.specs.Table.{TableParts, rules_of, name_of, candidates_of, in_range, pin_of, place_in}

-- ---- maps made of pins

-- the names of the pins are numbers of the table
abbrev AreKnownPins : TableParts → List (Pin ℕ ℕ) → Type 0
AreKnownPins t ps = (p : Pin ℕ ℕ) → Contains ps p → p.name < length t.candidates

cond-image : {V : Type 0} (b : Bool) (f : ℕ → V) (g : ℕ → V) (p : ℕ) (x : Option V) (o : Option ℕ) → (b ≡ true → g p ≡ f p) → x ≡ image f o → cond b (Some (g p)) x ≡ image f (cond b (Some p) o)
cond-image true f g p x o h e = ap (λ v. Some v) (h refl)
cond-image false f g p x o h e = e

version-up : {N X V R : Type 0} (t : TableParts) (picture : Picture N X V R) (rules : Rules N X V R) → IsPicture t picture rules → (ps : List (Pin ℕ ℕ)) → AreKnownPins t ps → (n : ℕ) → n < length t.candidates → version_pinned rules.compare (map (pin_pictured picture) ps) (picture.name n) ≡ image (picture.version n) (version_pinned nat_cmp ps n)
version-up t picture rules h [] k n l = refl
version-up {N} {X} {V} t picture rules h (p ∷ ps) k n l =
    let same : rules.compare (picture.name p.name) (picture.name n) ≡ nat_cmp p.name n = h.order p.name n (k p (Contains-here p ps)) l in
    subst (λ o. cond (is_eq o) (Some (picture.version p.name p.version)) (version_pinned rules.compare (map (pin_pictured picture) ps) (picture.name n)) ≡ image (picture.version n) (cond (is_eq (nat_cmp p.name n)) (Some p.version) (version_pinned nat_cmp ps n))) (sym same)
    (cond-image (is_eq (nat_cmp p.name n)) (picture.version n) (picture.version p.name) p.version _ (version_pinned nat_cmp ps n)
    (λ e. ap (λ m. picture.version m p.version) (is_eq-same nat_cmp nat-order p.name n e))
    (version-up t picture rules h ps (λ q i. k q (Contains-there p ps q i)) n l))

cond-some : (b : Bool) (v : ℕ) (x : Option ℕ) → ((b ≡ true → ⊥) → (w : ℕ) × (x ≡ Some w)) → (w : ℕ) × (cond b (Some v) x ≡ Some w)
cond-some true v x h = (v, refl)
cond-some false v x h = h (λ e. absurd (cc))

member-some : (ps : List (Pin ℕ ℕ)) (p : Pin ℕ ℕ) → Contains ps p → (w : ℕ) × (version_pinned nat_cmp ps p.name ≡ Some w)
member-some [] p i = absurd (Contains-nil p i)
member-some (q ∷ ps) p i = cond-some (is_eq (nat_cmp q.name p.name)) q.version (version_pinned nat_cmp ps p.name) (λ off. elim (Contains-cons_cases q ps p i) [
  | inl e ↦ absurd (off (subst (λ (x : Pin ℕ ℕ). is_eq (nat_cmp q.name x.name) ≡ true) e (is_eq-self nat_cmp nat-order q.name)))
  | inr r ↦ member-some ps p r
])

-- pins that a map of candidates has are known
known-pins : (t : TableParts) (s : ℕ → Option ℕ) (ps : List (Pin ℕ ℕ)) → ((n p : ℕ) → s n ≡ Some p → Contains (candidates_of t n) p) → Has (rules_of t) s ps → AreKnownPins t ps
known-pins t s ps released had p i =
    let w : (w : ℕ) × (version_pinned nat_cmp ps p.name ≡ Some w) = member-some ps p i in
    candidate-known t p.name w.0 (released p.name w.0 (had p.name w.0 w.1))

alike-pins : {N X V R : Type 0} (t : TableParts) (picture : Picture N X V R) (rules : Rules N X V R) → IsPicture t picture rules → (s : ℕ → Option ℕ) (ps : List (Pin ℕ ℕ)) → ((n p : ℕ) → s n ≡ Some p → Contains (candidates_of t n) p) → Has (rules_of t) s ps → IsAlike t picture (version_pinned nat_cmp ps) (version_pinned rules.compare (map (pin_pictured picture) ps))
alike-pins t picture rules h s ps released had = record {
  at = λ n l. version-up t picture rules h ps (known-pins t s ps released had) n l;
  released = λ n p e. released n p (had n p e);
}

named-pins : {N X V R : Type 0} (t : TableParts) (picture : Picture N X V R) (rules : Rules N X V R) → IsOrder rules.compare → (ps : List (Pin ℕ ℕ)) → AreKnownPins t ps → AreNamed t picture (version_pinned rules.compare (map (pin_pictured picture) ps))
named-pins {N} {X} {V} t picture rules order ps k m v e =
    let q : (q : Pin N V) × Contains (map (pin_pictured picture) ps) q × (q.name ≡ m) = pin-member rules.compare order (map (pin_pictured picture) ps) m v e in
    let p : (p : Pin ℕ ℕ) × Contains ps p × (pin_pictured picture p ≡ q.0) = Contains-map (pin_pictured picture) ps q.0 q.1 in
    (p.0.name, k p.0 p.1, ap (λ (x : Pin N V). x.name) p.2 ∙ q.2)

-- ---- a solution of the rules, as a map over the table's numbers

place-for : {N X V R : Type 0} (t : TableParts) (picture : Picture N X V R) (rules : Rules N X V R) → IsPicture t picture rules → (T : N → Option V) → Solution rules T → (n : ℕ) (v : V) → n < length t.candidates → T (picture.name n) ≡ Some v → (p : ℕ) × Contains (candidates_of t n) p × (picture.version n p ≡ v)
place-for t picture rules h T sol n v l e = Contains-map (picture.version n) (candidates_of t n) v (subst (λ vs. Contains vs v) (h.candidates n l) (sol.released (picture.name n) v e))

abbrev find : {N X V R : Type 0} (t : TableParts) (picture : Picture N X V R) (rules : Rules N X V R) → IsPicture t picture rules → (T : N → Option V) → Solution rules T → (n : ℕ) → (n < length t.candidates) ⊎ (length t.candidates ≤ n) → (o : Option V) → T (picture.name n) ≡ o → Option ℕ
find t picture rules h T sol n (inl l) None e = None
find t picture rules h T sol n (inl l) (Some v) e = Some (place-for t picture rules h T sol n v l e).0
find t picture rules h T sol n (inr l) o e = None

abbrev found : {N X V R : Type 0} (t : TableParts) (picture : Picture N X V R) (rules : Rules N X V R) → IsPicture t picture rules → (T : N → Option V) → Solution rules T → ℕ → Option ℕ
found t picture rules h T sol n = find t picture rules h T sol n (split-nat n (length t.candidates)) (T (picture.name n)) refl

find-at : {N X V R : Type 0} (t : TableParts) (picture : Picture N X V R) (rules : Rules N X V R) (h : IsPicture t picture rules) (T : N → Option V) (sol : Solution rules T) (n : ℕ) (d : (n < length t.candidates) ⊎ (length t.candidates ≤ n)) (o : Option V) (e : T (picture.name n) ≡ o) → n < length t.candidates → o ≡ image (picture.version n) (find t picture rules h T sol n d o e)
find-at t picture rules h T sol n (inl l) None e k = refl
find-at t picture rules h T sol n (inl l) (Some v) e k = ap (λ w. Some w) (sym (place-for t picture rules h T sol n v l e).2)
find-at t picture rules h T sol n (inr l) o e k = absurd (omega arith)

find-released : {N X V R : Type 0} (t : TableParts) (picture : Picture N X V R) (rules : Rules N X V R) (h : IsPicture t picture rules) (T : N → Option V) (sol : Solution rules T) (n p : ℕ) (d : (n < length t.candidates) ⊎ (length t.candidates ≤ n)) (o : Option V) (e : T (picture.name n) ≡ o) → find t picture rules h T sol n d o e ≡ Some p → Contains (candidates_of t n) p
find-released t picture rules h T sol n p (inl l) None e f = absurd (cc)
find-released t picture rules h T sol n p (inl l) (Some v) e f =
    let k = place-for t picture rules h T sol n v l e in
    subst (λ q. Contains (candidates_of t n) q) (some-inj k.0 p f) k.1
find-released t picture rules h T sol n p (inr l) o e f = absurd (cc)

alike-found : {N X V R : Type 0} (t : TableParts) (picture : Picture N X V R) (rules : Rules N X V R) (h : IsPicture t picture rules) (T : N → Option V) (sol : Solution rules T) → IsAlike t picture (found t picture rules h T sol) T
alike-found t picture rules h T sol = record {
  at = λ n l. find-at t picture rules h T sol n (split-nat n (length t.candidates)) (T (picture.name n)) refl l;
  released = λ n p e. find-released t picture rules h T sol n p (split-nat n (length t.candidates)) (T (picture.name n)) refl e;
}

named-solution : {N X V R : Type 0} (t : TableParts) (picture : Picture N X V R) (rules : Rules N X V R) → in_range t ≡ true → IsPicture t picture rules → (s : ℕ → Option ℕ) (T : N → Option V) → IsAlike t picture s T → Solution rules T → AreNamed t picture T
named-solution t picture rules known h s T a sol m v e =
    let k : IsNeededName rules T m = sol.each_needed m v e in
    let x : IsStoodFor t picture s k.0 = needed-down t picture rules known h s T a k.0 k.1 in
    (name_of t x.0, name-known t known x.0 x.1, sym (h.on x.0 x.1) ∙ ap rules.on x.2 ∙ k.2)

-- ---- the walk, and the better of two

next-up : {N X V R : Type 0} (t : TableParts) (picture : Picture N X V R) (rules : Rules N X V R) → in_range t ≡ true → IsPicture t picture rules → (taken : List (Pin ℕ ℕ)) (n : ℕ) → IsAlike t picture (version_pinned nat_cmp taken) (version_pinned rules.compare (map (pin_pictured picture) taken)) → IsNext (rules_of t) taken n → (n < length t.candidates) × IsNext rules (map (pin_pictured picture) taken) (picture.name n)
next-up t picture rules known h taken n a next =
    let s : ℕ → Option ℕ = version_pinned nat_cmp taken in
    let S = version_pinned rules.compare (map (pin_pictured picture) taken) in
    let up : (next.needed.0 < length t.nodes) × Needed rules S (picture.node next.needed.0) = needed-up t picture rules known h s S a next.needed.0 next.needed.1 in
    let l : n < length t.candidates = subst (λ m. m < length t.candidates) next.needed.2 (name-known t known next.needed.0 up.0) in (
      l,
      record {
        needed = (picture.node next.needed.0, up.1, h.on next.needed.0 up.0 ∙ ap picture.name next.needed.2);
        free = a.at n l ∙ ap (image (picture.version n)) next.free;
        least = λ m k free.
            let x : IsStoodFor t picture s k.0 = needed-down t picture rules known h s S a k.0 k.1 in
            let o : ℕ = name_of t x.0 in
            let j : o < length t.candidates = name-known t known x.0 x.1 in
            let same : picture.name o ≡ m = sym (h.on x.0 x.1) ∙ ap rules.on x.2 ∙ k.2 in
            let none : s o ≡ None = image-none (picture.version o) (s o) (sym (a.at o j) ∙ ap S same ∙ free) in
            subst (λ y. rules.compare (picture.name n) y ≢ Greater) same
            (subst (λ c. c ≢ Greater) (sym (h.order n o l j)) (next.least o (x.0, x.3, refl) none));
      },
    )

walk-up : {N X V R : Type 0} (t : TableParts) (picture : Picture N X V R) (rules : Rules N X V R) → in_range t ≡ true → IsPicture t picture rules → (s : ℕ → Option ℕ) → ((n p : ℕ) → s n ≡ Some p → Contains (candidates_of t n) p) → (before ps : List (Pin ℕ ℕ)) → Has (rules_of t) s (before ++ ps) → IsWalk (rules_of t) before ps → IsWalk rules (map (pin_pictured picture) before) (map (pin_pictured picture) ps)
walk-up t picture rules known h s released before [] had walk = tt
walk-up t picture rules known h s released before (p ∷ ps) had walk =
    let a = alike-pins t picture rules h s before released (Has-front (rules_of t) s before (p ∷ ps) had) in (
      (next-up t picture rules known h before p.name a walk.0).1,
      subst (λ qs. IsWalk rules qs (map (pin_pictured picture) ps)) (map-append (pin_pictured picture) before (p ∷ []))
          (walk-up t picture rules known h s released (before ++ p ∷ []) ps (subst (λ qs. Has (rules_of t) s qs) (sym (append_assoc before (p ∷ []) ps)) had) walk.1),
    )

has-up : {N X V R : Type 0} (t : TableParts) (picture : Picture N X V R) (rules : Rules N X V R) → IsPicture t picture rules → IsOrder rules.compare → (s : ℕ → Option ℕ) (S : N → Option V) → IsAlike t picture s S → (ps : List (Pin ℕ ℕ)) → Has (rules_of t) s ps → Has rules S (map (pin_pictured picture) ps)
has-up t picture rules h order s S a ps had m v e =
    let k : AreKnownPins t ps = known-pins t s ps a.released had in
    let n : (n : ℕ) × (n < length t.candidates) × (picture.name n ≡ m) = named-pins t picture rules order ps k m v e in
    let p : (p : ℕ) × (version_pinned nat_cmp ps n.0 ≡ Some p) × (picture.version n.0 p ≡ v) = image-some (picture.version n.0) (version_pinned nat_cmp ps n.0) v
    (sym (version-up t picture rules h ps k n.0 n.1) ∙ ap (version_pinned rules.compare (map (pin_pictured picture) ps)) n.2 ∙ e) in
    sym (ap S n.2) ∙ a.at n.0 n.1 ∙ ap (image (picture.version n.0)) (had n.0 p.0 p.1) ∙ ap (λ w. Some w) p.2

first-up : {N X V R : Type 0} (t : TableParts) (picture : Picture N X V R) (rules : Rules N X V R) → IsPicture t picture rules → (n p q : ℕ) → n < length t.candidates → Contains (candidates_of t n) p → Contains (candidates_of t n) q → ComesFirst (candidates_of t n) p q → ComesFirst (rules.candidates (picture.name n)) (picture.version n p) (picture.version n q)
first-up t picture rules h n p q l i j f = (
  map (picture.version n) f.0,
  map (picture.version n) f.1,
  h.candidates n l ∙ ap (map (picture.version n)) f.2 ∙ map-append (picture.version n) f.0 (p ∷ f.1),
  λ k.
      let w : (w : ℕ) × Contains f.0 w × (picture.version n w ≡ picture.version n q) = Contains-map (picture.version n) f.0 (picture.version n q) k in
      let there : Contains (candidates_of t n) w.0 = subst (λ xs. Contains xs w.0) (sym f.2) (Contains-append_left f.0 (p ∷ f.1) w.0 w.1) in
      f.3 (subst (λ x. Contains f.0 x) (h.apart n w.0 q there j w.2) w.1),
  λ e. f.4 (h.apart n p q i j e),
)

better-up : {N X V R : Type 0} (t : TableParts) (picture : Picture N X V R) (rules : Rules N X V R) → in_range t ≡ true → IsPicture t picture rules → IsOrder rules.compare → (s u : ℕ → Option ℕ) (S U : N → Option V) → IsAlike t picture s S → IsAlike t picture u U → IsBetter (rules_of t) s u → IsBetter rules S U
better-up t picture rules known h order s u S U a b better =
    let pins = alike-pins t picture rules h s better.taken a.released better.had in
    let next : (better.name < length t.candidates) × IsNext rules (map (pin_pictured picture) better.taken) (picture.name better.name) = next-up t picture rules known h better.taken better.name pins better.next in
    record {
      taken = map (pin_pictured picture) better.taken;
      walk = walk-up t picture rules known h s a.released [] better.taken better.had better.walk;
      had = has-up t picture rules h order s S a better.taken better.had;
      had_too = has-up t picture rules h order u U b better.taken better.had_too;
      name = picture.name better.name;
      next = next.1;
      version = picture.version better.name better.version;
      version_too = picture.version better.name better.version_too;
      chosen = a.at better.name next.0 ∙ ap (image (picture.version better.name)) better.chosen;
      chosen_too = b.at better.name next.0 ∙ ap (image (picture.version better.name)) better.chosen_too;
      first = first-up t picture rules h better.name better.version better.version_too next.0 (a.released better.name better.version better.chosen) (b.released better.name better.version_too better.chosen_too) better.first;
    }

-- ---- the law

same-up : {N X V R : Type 0} (t : TableParts) (picture : Picture N X V R) (s u : ℕ → Option ℕ) (S U : N → Option V) → IsAlike t picture s S → IsAlike t picture u U → AreNamed t picture S → AreNamed t picture U → ((n : ℕ) → u n ≡ s n) → (m : N) → U m ≡ S m
same-up {N} {X} {V} t picture s u S U a b c d e m =
    let chain : (n : ℕ) → n < length t.candidates → picture.name n ≡ m → U m ≡ S m = λ n l f. sym (ap U f) ∙ b.at n l ∙ ap (image (picture.version n)) (e n) ∙ sym (a.at n l) ∙ ap S f in
    elim (option_cases (U m)) [
      | inl none ↦ elim (option_cases (S m)) [
        | inl nothing ↦ none ∙ sym nothing
        | inr some ↦ let n : (n : ℕ) × (n < length t.candidates) × (picture.name n ≡ m) = c m some.0 some.1 in chain n.0 n.1 n.2
      ]
      | inr some ↦ let n : (n : ℕ) × (n < length t.candidates) × (picture.name n ≡ m) = d m some.0 some.1 in chain n.0 n.1 n.2
    ]

has-own : (t : TableParts) (ps : List (Pin ℕ ℕ)) → Has (rules_of t) (version_pinned nat_cmp ps) ps
has-own t ps n v e = e

pub picture-best : {N X V R : Type 0} (t : TableParts) (picture : Picture N X V R) (rules : Rules N X V R) → in_range t ≡ true → IsOrder rules.compare → IsPicture t picture rules → (choices : List TableChoice) → IsBest (rules_of t) (place_in choices) → IsBest rules (version_pinned rules.compare (pictured picture choices))
picture-best {N} {X} {V} t picture rules known order h choices best =
    let ps : List (Pin ℕ ℕ) = map pin_of choices in
    let s : ℕ → Option ℕ = version_pinned nat_cmp ps in
    let S : N → Option V = version_pinned rules.compare (map (pin_pictured picture) ps) in
    let a : IsAlike t picture s S = alike-pins t picture rules h s ps best.solution.released (has-own t ps) in
    let named : AreNamed t picture S = named-pins t picture rules order ps (known-pins t s ps best.solution.released (has-own t ps)) in
    record {
      solution = solution-up t picture rules known h s S a named best.solution;
      best = λ T sol.
          let u : ℕ → Option ℕ = found t picture rules h T sol in
          let b : IsAlike t picture u T = alike-found t picture rules h T sol in
          elim (best.best u (solution-down t picture rules known h order u T b sol)) [
            | inl same ↦ inl (same-up t picture s u S T a b named (named-solution t picture rules known h u T b sol) same)
            | inr better ↦ inr (better-up t picture rules known h order s u S T a b better)
          ];
    }

pub picture-none : {N X V R : Type 0} (t : TableParts) (picture : Picture N X V R) (rules : Rules N X V R) → in_range t ≡ true → IsOrder rules.compare → IsPicture t picture rules → HasNoSolution (rules_of t) → HasNoSolution rules
picture-none t picture rules known order h none T sol =
    let u : ℕ → Option ℕ = found t picture rules h T sol in
    none u (solution-down t picture rules known h order u T (alike-found t picture rules h T sol) sol)

pub picture-none_back : {N X V R : Type 0} (t : TableParts) (picture : Picture N X V R) (rules : Rules N X V R) → in_range t ≡ true → IsOrder rules.compare → IsPicture t picture rules → HasNoSolution rules → HasNoSolution (rules_of t)
picture-none_back {N} {X} {V} t picture rules known order h none s sol =
    let cs : (cs : List TableChoice) × IsListed s (length t.candidates) cs = listed s (length t.candidates) in
    let nothing : (n : ℕ) → length t.candidates ≤ n → s n ≡ None = λ n l. elim (option_cases (s n)) [
      | inl e ↦ e
      | inr some ↦ let k : n < length t.candidates = candidate-known t n some.0 (sol.released n some.0 some.1) in absurd (omega arith)
    ] in
    let same : (n : ℕ) → place_in cs.0 n ≡ s n = listed-all s (length t.candidates) cs.0 cs.1 nothing in
    let path : s ≡ place_in cs.0 = λ i n. sym (same n) i in
    let listed_sol : Solution (rules_of t) (place_in cs.0) = subst (λ (u : ℕ → Option ℕ). Solution (rules_of t) u) path sol in
    let ps : List (Pin ℕ ℕ) = map pin_of cs.0 in
    let S : N → Option V = version_pinned rules.compare (map (pin_pictured picture) ps) in
    none S (solution-up t picture rules known h (place_in cs.0) S
    (alike-pins t picture rules h (place_in cs.0) ps listed_sol.released (has-own t ps))
    (named-pins t picture rules order ps (known-pins t (place_in cs.0) ps listed_sol.released (has-own t ps)))
    listed_sol)
