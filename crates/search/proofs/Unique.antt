-- There is at most one best solution, and none is better.
use Rattle.std.proofs.Common.{List, [], ◌∷◌, ◌++◌, ◌≡◌, ◌≢◌, inl, inr, Contains, refl, sym, ◌∙◌, ap, subst, subst₂, Some, Option, Greater, Less, Equal, Ordering, append_assoc, append-nil, ap₂}
use Rattle.std.specs.Ordering.{ordering_reverse}
use Rattle.lists.proofs.Members.{Contains-here, Contains-there}
use Rattle.search.proofs.PinnedMaps.{version_pinned-last, version_pinned-append_some, some-inj}
use Rattle.search.specs.Rules.{Rules, IsOrder}
use Rattle.search.specs.Solutions.{Pin, IsNext, IsWalk, Has, ComesFirst, IsBetter, IsBest, Solution, version_pinned}

tied : (o p : Ordering) → o ≡ ordering_reverse p → o ≢ Greater → p ≢ Greater → o ≡ Equal
tied Less Less e h k = cc
tied Less Equal e h k = cc
tied Less Greater e h k = absurd (k refl)
tied Equal p e h k = refl
tied Greater p e h k = absurd (h refl)

pub next-unique : {N X V R : Type 0} (rules : Rules N X V R) (order : IsOrder rules.compare) (taken : List (Pin N V)) (n m : N) → IsNext rules taken n → IsNext rules taken m → n ≡ m
next-unique rules order taken n m h k = order.exact n m (tied (rules.compare n m) (rules.compare m n) (order.total.antisymm n m) (h.least m k.needed k.free) (k.least n h.needed h.free))

-- neither of two comes first before the other
first-not_both : {V : Type 0} (cs : List V) (a c b d : List V) (v w : V) → cs ≡ a ++ v ∷ b → cs ≡ c ++ w ∷ d → (Contains a w → ⊥) → (Contains c v → ⊥) → v ≢ w → ⊥
first-not_both [] [] c b d v w e f h k n = cc
first-not_both [] (x ∷ a) c b d v w e f h k n = cc
first-not_both (z ∷ cs) [] [] b d v w e f h k n = n (cc)
first-not_both (z ∷ cs) [] (y ∷ c) b d v w e f h k n = let g : y ≡ v = cc in k (subst (λ q. Contains (y ∷ c) q) g (Contains-here y c))
first-not_both (z ∷ cs) (x ∷ a) [] b d v w e f h k n = let g : x ≡ w = cc in h (subst (λ q. Contains (x ∷ a) q) g (Contains-here x a))
first-not_both (z ∷ cs) (x ∷ a) (y ∷ c) b d v w e f h k n =
    let p : cs ≡ a ++ v ∷ b = cc in
    let q : cs ≡ c ++ w ∷ d = cc in
    first-not_both cs a c b d v w p q (λ i. h (Contains-there x a w i)) (λ i. k (Contains-there y c v i)) n

ComesFirst-not_both : {V : Type 0} (cs : List V) (v w : V) → ComesFirst cs v w → ComesFirst cs w v → ⊥
ComesFirst-not_both cs v w f g = first-not_both cs f.0 g.0 f.1 g.1 v w f.2 g.2 f.3 g.3 f.4

chosen-first : {N X V R : Type 0} (rules : Rules N X V R) (order : IsOrder rules.compare) (s : N → Option V) (before : List (Pin N V)) (c : Pin N V) (cs : List (Pin N V)) → IsNext rules before c.name → Has rules s (before ++ c ∷ cs) → s c.name ≡ Some c.version
chosen-first {N} {X} {V} rules order s before c cs next has = has c.name c.version (subst (λ xs. version_pinned rules.compare xs c.name ≡ Some c.version) (append_assoc before (c ∷ []) cs) (version_pinned-append_some rules.compare (before ++ c ∷ []) cs c.name c.version (version_pinned-last rules.compare order before c next.free)))

-- where one walk ends at a name on which two solutions differ, another walk that both have doesn't go on, and ends alike
walks-end : {N X V R : Type 0} (rules : Rules N X V R) (order : IsOrder rules.compare) (s t : N → Option V) (before us ws : List (Pin N V)) (n m : N) (v w x y : V) → IsWalk rules before us → IsWalk rules before ws → Has rules s (before ++ us) → Has rules t (before ++ us) → Has rules s (before ++ ws) → Has rules t (before ++ ws) → IsNext rules (before ++ us) n → IsNext rules (before ++ ws) m → s n ≡ Some v → t n ≡ Some w → s m ≡ Some x → t m ≡ Some y → v ≢ w → x ≢ y → n ≡ m
walks-end {N} {X} {V} rules order s t before [] [] n m v w x y wa wb sa ta sb tb na nb e f g h d k = next-unique rules order (before ++ []) n m na nb
walks-end {N} {X} {V} rules order s t before [] (b ∷ ws) n m v w x y wa wb sa ta sb tb na nb e f g h d k =
    let same : n ≡ b.name = next-unique rules order before n b.name (subst (λ xs. IsNext rules xs n) (append-nil before) na) wb.0 in
    let p : Some v ≡ Some b.version = sym e ∙ ap s same ∙ chosen-first rules order s before b ws wb.0 sb in
    let q : Some w ≡ Some b.version = sym f ∙ ap t same ∙ chosen-first rules order t before b ws wb.0 tb in
    absurd (d (some-inj v b.version p ∙ sym (some-inj w b.version q)))
walks-end {N} {X} {V} rules order s t before (a ∷ us) [] n m v w x y wa wb sa ta sb tb na nb e f g h d k =
    let same : m ≡ a.name = next-unique rules order before m a.name (subst (λ xs. IsNext rules xs m) (append-nil before) nb) wa.0 in
    let p : Some x ≡ Some a.version = sym g ∙ ap s same ∙ chosen-first rules order s before a us wa.0 sa in
    let q : Some y ≡ Some a.version = sym h ∙ ap t same ∙ chosen-first rules order t before a us wa.0 ta in
    absurd (k (some-inj x a.version p ∙ sym (some-inj y a.version q)))
walks-end {N} {X} {V} rules order s t before (a ∷ us) (b ∷ ws) n m v w x y wa wb sa ta sb tb na nb e f g h d k =
    let named : a.name ≡ b.name = next-unique rules order before a.name b.name wa.0 wb.0 in
    let p : Some a.version ≡ Some b.version = sym (chosen-first rules order s before a us wa.0 sa) ∙ ap s named ∙ chosen-first rules order s before b ws wb.0 sb in
    let same : b ≡ a = ap₂ (λ (i : N) (j : V). record { name = i; version = j }) (sym named) (sym (some-inj a.version b.version p)) in
    walks-end rules order s t (before ++ a ∷ []) us ws n m v w x y wa.1
    (subst (λ (c : Pin N V). IsWalk rules (before ++ c ∷ []) ws) same wb.1)
    (subst (λ xs. Has rules s xs) (sym (append_assoc before (a ∷ []) us)) sa)
    (subst (λ xs. Has rules t xs) (sym (append_assoc before (a ∷ []) us)) ta)
    (subst (λ (c : Pin N V). Has rules s ((before ++ c ∷ []) ++ ws)) same (subst (λ xs. Has rules s xs) (sym (append_assoc before (b ∷ []) ws)) sb))
    (subst (λ (c : Pin N V). Has rules t ((before ++ c ∷ []) ++ ws)) same (subst (λ xs. Has rules t xs) (sym (append_assoc before (b ∷ []) ws)) tb))
    (subst (λ xs. IsNext rules xs n) (sym (append_assoc before (a ∷ []) us)) na)
    (subst (λ (c : Pin N V). IsNext rules ((before ++ c ∷ []) ++ ws) m) same (subst (λ xs. IsNext rules xs m) (sym (append_assoc before (b ∷ []) ws)) nb))
    e f g h d k

-- of two solutions not both are better
pub better-not_both : {N X V R : Type 0} (rules : Rules N X V R) (order : IsOrder rules.compare) (s t : N → Option V) → IsBetter rules s t → IsBetter rules t s → ⊥
better-not_both {N} {X} {V} rules order s t a b =
    let same : a.name ≡ b.name = walks-end rules order s t [] a.taken b.taken a.name b.name a.version a.version_too b.version_too b.version a.walk b.walk a.had a.had_too b.had_too b.had a.next b.next a.chosen a.chosen_too b.chosen_too b.chosen a.first.4 (λ e. b.first.4 (sym e)) in
    let p : a.version ≡ b.version_too = some-inj a.version b.version_too (sym a.chosen ∙ ap s same ∙ b.chosen_too) in
    let q : a.version_too ≡ b.version = some-inj a.version_too b.version (sym a.chosen_too ∙ ap t same ∙ b.chosen) in
    ComesFirst-not_both (rules.candidates b.name) b.version_too b.version
    (subst₂ (λ i j. ComesFirst (rules.candidates b.name) i j) p q (subst (λ m. ComesFirst (rules.candidates m) a.version a.version_too) same a.first))
    b.first

better-differs : {N X V R : Type 0} (rules : Rules N X V R) (order : IsOrder rules.compare) (s t : N → Option V) → IsBetter rules s t → ((n : N) → s n ≡ t n) → ⊥
better-differs rules order s t b e = b.first.4 (some-inj b.version b.version_too (sym b.chosen ∙ e b.name ∙ b.chosen_too))

-- no solution is better than the best
pub best-unbeaten : {N X V R : Type 0} (rules : Rules N X V R) (order : IsOrder rules.compare) (s t : N → Option V) → IsBest rules s → Solution rules t → IsBetter rules t s → ⊥
best-unbeaten rules order s t b sol k = elim (b.best t sol) [ inl e ↦ better-differs rules order t s k e | inr c ↦ better-not_both rules order s t c k ]

pub best-unique : {N X V R : Type 0} (rules : Rules N X V R) (order : IsOrder rules.compare) (s t : N → Option V) → IsBest rules s → IsBest rules t → (n : N) → t n ≡ s n
best-unique rules order s t a b = elim (a.best t b.solution) [ inl e ↦ e | inr c ↦ absurd (best-unbeaten rules order t s b a.solution c) ]
