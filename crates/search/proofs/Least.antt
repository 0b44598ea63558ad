-- The least name, step by step.
use Rattle.std.proofs.Common.{ℕ, List, [], ◌∷◌, ◌++◌, ◌≡◌, ◌≢◌, ◌<◌, ◌≤◌, ◌+◌, suc, inl, inr, Contains, length, take, get_or, refl, sym, ◌∙◌, ap, subst, arith, add-one, Some, None, Option, Bool, true, false, is_some, not, ◌⊎◌, cond, nat_lt, MatchOption, Greater, Less, Equal}
use Rattle.std.specs.Ordering.{nat_cmp}
use Rattle.std.proofs.lemmas.Cmp.{nat_cmp_total}
use Rattle.std.proofs.lemmas.Map.Lookups.{exact_unsigned}
use Rattle.std.proofs.lemmas.List.Elements.{Contains-append_left, Contains-push, Contains-push_cases}
use Rattle.std.specs.Cmp.{nat_cmp_is}
use Rattle.std.proofs.lemmas.Bool.{ltb-true, ltb-false}
use Rattle.search.proofs.Counts.{nat_less}
use Rattle.lists.proofs.Members.{get_or-any}
use Rattle.search.proofs.Nodes.{take-more}
use Rattle.search.specs.Rules.{Rules, IsOrder}
use Rattle.search.specs.Solutions.{IsNext, version_pinned, Pin}
use Rattle.search.specs.Tied.Search.{NoneFree, IsLeastFree, AreNeeded}

pub nat-order : IsOrder nat_cmp
nat-order = record { total = nat_cmp_total; exact = λ a b e. exact_unsigned a b e }

pub not_greater : (a b : ℕ) → a ≤ b → nat_cmp a b ≢ Greater
not_greater a b l e = elim (nat_less b a (omega arith)) [
  | inl low ↦ let k : Less ≡ Greater = nat_cmp_is a b Less low ∙ e in cc
  | inr same ↦ let k : Equal ≡ Greater = nat_cmp_is a b Equal (sym same) ∙ e in cc
]

none-push : (rules : Rules ℕ ℕ ℕ ℕ) (chosen : ℕ → Option ℕ) (nodes : List ℕ) (node : ℕ) → NoneFree rules chosen nodes → (chosen (rules.on node) ≡ None → ⊥) → NoneFree rules chosen (nodes ++ node ∷ [])
none-push rules chosen nodes node h k other i e = elim (Contains-push_cases nodes node other i) [
  | inl a ↦ h other a e
  | inr b ↦ k (ap (λ n. chosen (rules.on n)) b ∙ e)
]

least-push : (rules : Rules ℕ ℕ ℕ ℕ) (chosen : ℕ → Option ℕ) (nodes : List ℕ) (node n : ℕ) → IsLeastFree rules chosen nodes n → (chosen (rules.on node) ≡ None → n ≤ rules.on node) → IsLeastFree rules chosen (nodes ++ node ∷ []) n
least-push rules chosen nodes node n h k = record {
  node = h.node;
  there = Contains-append_left nodes (node ∷ []) h.node h.there;
  named = h.named;
  free = h.free;
  least = λ other i e. elim (Contains-push_cases nodes node other i) [
    | inl a ↦ h.least other a e
    | inr b ↦ subst (λ m. n ≤ rules.on m) b (k (ap (λ m. chosen (rules.on m)) b ∙ e))
  ];
}

least-new : (rules : Rules ℕ ℕ ℕ ℕ) (chosen : ℕ → Option ℕ) (nodes : List ℕ) (node : ℕ) → chosen (rules.on node) ≡ None → ((other : ℕ) → Contains nodes other → chosen (rules.on other) ≡ None → rules.on node ≤ rules.on other) → IsLeastFree rules chosen (nodes ++ node ∷ []) (rules.on node)
least-new rules chosen nodes node k h = record {
  node = node;
  there = Contains-push nodes node;
  named = refl;
  free = k;
  least = λ other i e. elim (Contains-push_cases nodes node other i) [
    | inl a ↦ h other a e
    | inr b ↦ subst (λ m. rules.on node ≤ rules.on m) b (omega arith)
  ];
}

-- what was found so far
abbrev pub IsFound : Rules ℕ ℕ ℕ ℕ → (ℕ → Option ℕ) → List ℕ → Option ℕ → Type 0
IsFound rules chosen nodes found = MatchOption found (NoneFree rules chosen nodes) (λ n. IsLeastFree rules chosen nodes n)

found-taken : (rules : Rules ℕ ℕ ℕ ℕ) (chosen : ℕ → Option ℕ) (nodes : List ℕ) (node : ℕ) (found : Option ℕ) → IsFound rules chosen nodes found → (chosen (rules.on node) ≡ None → ⊥) → IsFound rules chosen (nodes ++ node ∷ []) found
found-taken rules chosen nodes node None h k = none-push rules chosen nodes node h k
found-taken rules chosen nodes node (Some n) h k = least-push rules chosen nodes node n h (λ e. absurd (k e))

cond-cases : (b : Bool) (x y : ℕ) → ((b ≡ true) × (cond b x y ≡ x)) ⊎ ((b ≡ false) × (cond b x y ≡ y))
cond-cases true x y = inl (refl, refl)
cond-cases false x y = inr (refl, refl)

-- the lesser of a name found so far and another
abbrev lesser : ℕ → ℕ → ℕ
lesser a b = cond (nat_lt b a) b a

lesser-cases : (a b : ℕ) → ((a ≤ b) × (lesser a b ≡ a)) ⊎ ((b < a) × (lesser a b ≡ b))
lesser-cases a b = elim (cond-cases (nat_lt b a) b a) [
  | inl h ↦ inr (ltb-true b a h.0, h.1)
  | inr h ↦ inl (ltb-false b a h.0, h.1)
]

found-free : (rules : Rules ℕ ℕ ℕ ℕ) (chosen : ℕ → Option ℕ) (nodes : List ℕ) (node m : ℕ) (found : Option ℕ) → IsFound rules chosen nodes found → chosen (rules.on node) ≡ None → MatchOption found (m ≡ rules.on node) (λ other. m ≡ lesser other (rules.on node)) → IsLeastFree rules chosen (nodes ++ node ∷ []) m
found-free rules chosen nodes node m None h k e = subst (λ x. IsLeastFree rules chosen (nodes ++ node ∷ []) x) (sym e) (least-new rules chosen nodes node k (λ other i f. absurd (h other i f)))
found-free rules chosen nodes node m (Some n) h k e = subst (λ x. IsLeastFree rules chosen (nodes ++ node ∷ []) x) (sym e) (elim (lesser-cases n (rules.on node)) [
  | inl a ↦ subst (λ x. IsLeastFree rules chosen (nodes ++ node ∷ []) x) (sym a.1) (least-push rules chosen nodes node n h (λ _. a.0))
  | inr b ↦ subst (λ x. IsLeastFree rules chosen (nodes ++ node ∷ []) x) (sym b.1) (least-new rules chosen nodes node k (λ other i f. let l : n ≤ rules.on other = h.least other i f in let s = b.0 in omega arith))
])

is_none-true : (o : Option ℕ) (b : Bool) → is_some o ≡ not b → b ≡ true → o ≡ None
is_none-true None b e h = refl
is_none-true (Some v) b e h = absurd (let k : true ≡ not true = e ∙ ap not h in cc)

is_none-false : (o : Option ℕ) (b : Bool) → is_some o ≡ not b → b ≡ false → o ≡ None → ⊥
is_none-false None b e h k = let j : false ≡ not false = e ∙ ap not h in cc
is_none-false (Some v) b e h k = cc

front-more : (xs : List ℕ) (i : ℕ) → i < length xs → take (suc i) xs ≡ take i xs ++ get_or xs i 0 ∷ []
front-more xs i l = take-more xs i (get_or xs i 0) l (get_or-any xs i 0 _ l)

-- the loop's two ways on, at the node in turn
pub found-passed : (rules : Rules ℕ ℕ ℕ ℕ) (chosen : ℕ → Option ℕ) (nodes : List ℕ) (i : ℕ) (found o : Option ℕ) (b : Bool) → i < length nodes → IsFound rules chosen (take i nodes) found → o ≡ chosen (rules.on (get_or nodes i 0)) → is_some o ≡ not b → b ≡ false → IsFound rules chosen (take (i + 1) nodes) found
found-passed rules chosen nodes i found o b l h e f g = rw add-one (subst (λ ns. IsFound rules chosen ns found) (sym (front-more nodes i l)) (found-taken rules chosen (take i nodes) (get_or nodes i 0) found h (λ k. is_none-false o b f g (e ∙ k))))

pub found-lesser : (rules : Rules ℕ ℕ ℕ ℕ) (chosen : ℕ → Option ℕ) (nodes : List ℕ) (i m : ℕ) (found o : Option ℕ) (b : Bool) → i < length nodes → IsFound rules chosen (take i nodes) found → o ≡ chosen (rules.on (get_or nodes i 0)) → is_some o ≡ not b → b ≡ true → MatchOption found (m ≡ rules.on (get_or nodes i 0)) (λ other. m ≡ lesser other (rules.on (get_or nodes i 0))) → IsFound rules chosen (take (i + 1) nodes) (Some m)
found-lesser rules chosen nodes i m found o b l h e f g k = rw add-one (subst (λ ns. IsFound rules chosen ns (Some m)) (sym (front-more nodes i l)) (found-free rules chosen (take i nodes) (get_or nodes i 0) m found h (sym e ∙ is_none-true o b f g) k))

-- the least free name of the needed nodes is the next name
pub least-next : (rules : Rules ℕ ℕ ℕ ℕ) → rules.compare ≡ nat_cmp → (taken : List (Pin ℕ ℕ)) (nodes : List ℕ) (n : ℕ) → AreNeeded rules (version_pinned rules.compare taken) nodes → IsLeastFree rules (version_pinned rules.compare taken) nodes n → IsNext rules taken n
least-next rules numbers taken nodes n a h = record {
  needed = (h.node, a.sound h.node h.there, h.named);
  free = h.free;
  least = λ m k e. subst (λ cmp. cmp n m ≢ Greater) (sym numbers) (not_greater n m (subst (λ x. n ≤ x) k.2 (h.least k.0 (a.whole k.0 k.1) (ap (version_pinned rules.compare taken) k.2 ∙ e))));
}
