-- Lists of choices that are read as sets.
use Rattle.std.proofs.Common.{ℕ, zero, suc, List, [], ◌∷◌, ◌++◌, ◌≡◌, ◌<◌, ◌≤◌, ◌+◌, inl, inr, Contains, length, get_or, take, sym, ◌∙◌, subst, arith, add-one}
use Rattle.std.proofs.lemmas.List.Elements.{Contains-push_cases, Contains-push, Contains-append_left}
use Rattle.lists.proofs.Members.{Contains-here, Contains-there, Contains-cons_cases, Contains-nil, Contains-take_suc, Contains-take_zero, take-whole}
use Rattle.search.specs.declared.conflict.NodeChoice.{NodeChoice}
use Rattle.learning_search.specs.Tied.Gathering.{Gathers, IsWithin}

-- ---- what is not among the first ones, nor the next, is not among one more

pub absent-more : {X : Type 0} (xs : List X) (i : ℕ) (x : X) → i < length xs → (Contains (take i xs) x → ⊥) → (get_or xs i x ≡ x → ⊥) → Contains (take (i + 1) xs) x → ⊥
absent-more xs i x l none other h = elim (Contains-take_suc xs i x x l (rw add-one at h)) [ inl a ↦ none a | inr b ↦ other b ]

pub absent-end : {X : Type 0} (xs : List X) (i : ℕ) (x : X) → length xs ≤ i → (Contains (take i xs) x → ⊥) → Contains xs x → ⊥
absent-end xs i x l none h = none (subst (λ ys. Contains ys x) (sym (take-whole xs i l)) h)

-- ---- gathering

pub gathers-there : (old : List (NodeChoice ℕ ℕ)) (c : NodeChoice ℕ ℕ) → Contains old c → Gathers old old (c ∷ []) []
gathers-there old c h = record {
  kept = λ d i. i;
  added = λ d i. elim (Contains-cons_cases c [] d i) [ inl e ↦ inl (subst (λ x. Contains old x) e h) | inr r ↦ absurd (Contains-nil d r) ];
  only = λ d i. inl i;
}

pub gathers-push : (old : List (NodeChoice ℕ ℕ)) (c : NodeChoice ℕ ℕ) → Gathers old (old ++ c ∷ []) (c ∷ []) []
gathers-push old c = record {
  kept = λ d i. Contains-append_left old (c ∷ []) d i;
  added = λ d i. elim (Contains-cons_cases c [] d i) [ inl e ↦ inl (subst (λ x. Contains (old ++ c ∷ []) x) e (Contains-push old c)) | inr r ↦ absurd (Contains-nil d r) ];
  only = λ d i. elim (Contains-push_cases old c d i) [
    | inl a ↦ inl a
    | inr b ↦ inr (subst (λ x. Contains (c ∷ []) x) b (Contains-here c []), Contains-nil d)
  ];
}

pub gathers-left_out : (old : List (NodeChoice ℕ ℕ)) (c d : NodeChoice ℕ ℕ) → c ≡ d → Gathers old old (c ∷ []) (d ∷ [])
gathers-left_out old c d e = record {
  kept = λ x i. i;
  added = λ x i. elim (Contains-cons_cases c [] x i) [ inl f ↦ inr (subst (λ y. Contains (d ∷ []) y) (sym e ∙ f) (Contains-here d [])) | inr r ↦ absurd (Contains-nil x r) ];
  only = λ x i. inl i;
}

pub gathers-but : (old new : List (NodeChoice ℕ ℕ)) (c d : NodeChoice ℕ ℕ) → (c ≡ d → ⊥) → Gathers old new (c ∷ []) [] → Gathers old new (c ∷ []) (d ∷ [])
gathers-but old new c d other g = record {
  kept = g.kept;
  added = λ x i. elim (g.added x i) [ inl a ↦ inl a | inr b ↦ absurd (Contains-nil x b) ];
  only = λ x i. elim (g.only x i) [
    | inl a ↦ inl a
    | inr b ↦ inr (
      b.0,
      λ k. elim (Contains-cons_cases c [] x b.0) [
        | inl e ↦ elim (Contains-cons_cases d [] x k) [ inl f ↦ other (e ∙ sym f) | inr r ↦ Contains-nil x r ]
        | inr r ↦ Contains-nil x r
      ],
    )
  ];
}

pub gathers-none : (old : List (NodeChoice ℕ ℕ)) (conflict left_out : List (NodeChoice ℕ ℕ)) → Gathers old old (take 0 conflict) left_out
gathers-none old conflict left_out = record {
  kept = λ x i. i;
  added = λ x i. absurd (Contains-take_zero conflict x i);
  only = λ x i. inl i;
}

pub take-grows : {X : Type 0} (xs : List X) (k : ℕ) (x : X) → Contains (take k xs) x → Contains (take (suc k) xs) x
take-grows [] zero x h = absurd (Contains-nil x h)
take-grows [] (suc k) x h = h
take-grows (y ∷ ys) zero x h = absurd (Contains-nil x h)
take-grows (y ∷ ys) (suc k) x h = elim (Contains-cons_cases y (take k ys) x h) [
  | inl e ↦ subst (λ z. Contains (y ∷ take (suc k) ys) z) e (Contains-here y (take (suc k) ys))
  | inr r ↦ Contains-there y (take (suc k) ys) x (take-grows ys k x r)
]

pub take-last : {X : Type 0} (xs : List X) (k : ℕ) (d : X) → k < length xs → Contains (take (suc k) xs) (get_or xs k d)
take-last [] k d l = absurd (omega arith)
take-last (y ∷ ys) zero d l = Contains-here y (take 0 ys)
take-last (y ∷ ys) (suc k) d l = Contains-there y (take (suc k) ys) (get_or ys k d) (take-last ys k d (omega arith))

-- one more
pub gathers-more : (old mid new conflict left_out : List (NodeChoice ℕ ℕ)) (i : ℕ) (d : NodeChoice ℕ ℕ) → i < length conflict → Gathers old mid (take i conflict) left_out → Gathers mid new (get_or conflict i d ∷ []) left_out → Gathers old new (take (i + 1) conflict) left_out
gathers-more old mid new conflict left_out i d l g h = record {
  kept = λ x k. h.kept x (g.kept x k);
  added = λ x k. elim (Contains-take_suc conflict i d x l (rw add-one at k)) [
    | inl a ↦ elim (g.added x a) [ inl b ↦ inl (h.kept x b) | inr b ↦ inr b ]
    | inr b ↦ h.added x (subst (λ y. Contains (get_or conflict i d ∷ []) y) b (Contains-here (get_or conflict i d) []))
  ];
  only = λ x k. elim (h.only x k) [
    | inl a ↦ elim (g.only x a) [ inl b ↦ inl b | inr b ↦ inr (rw add-one (take-grows conflict i x b.0), b.1) ]
    | inr b ↦ inr (
      elim (Contains-cons_cases (get_or conflict i d) [] x b.0) [
        | inl e ↦ subst (λ y. Contains (take (i + 1) conflict) y) e (rw add-one (take-last conflict i d l))
        | inr r ↦ absurd (Contains-nil x r)
      ],
      b.1,
    )
  ];
}

pub gathers-whole : (old new conflict left_out : List (NodeChoice ℕ ℕ)) (i : ℕ) → length conflict ≤ i → Gathers old new (take i conflict) left_out → Gathers old new conflict left_out
gathers-whole old new conflict left_out i l g = subst (λ xs. Gathers old new xs left_out) (take-whole conflict i l) g

-- ---- conflicts whose choices are assigned, but for a last one

pub within-none : (conflict decisions : List (NodeChoice ℕ ℕ)) (last : NodeChoice ℕ ℕ) → IsWithin (take 0 conflict) decisions last
within-none conflict decisions last c i = absurd (Contains-take_zero conflict c i)

pub within-more : (conflict decisions : List (NodeChoice ℕ ℕ)) (last : NodeChoice ℕ ℕ) (i : ℕ) (d : NodeChoice ℕ ℕ) → i < length conflict → IsWithin (take i conflict) decisions last → IsWithin (get_or conflict i d ∷ []) decisions last → IsWithin (take (i + 1) conflict) decisions last
within-more conflict decisions last i d l h k c j = elim (Contains-take_suc conflict i d c l (rw add-one at j)) [
  | inl a ↦ h c a
  | inr b ↦ k c (subst (λ y. Contains (get_or conflict i d ∷ []) y) b (Contains-here (get_or conflict i d) []))
]

pub within-whole : (conflict decisions : List (NodeChoice ℕ ℕ)) (last : NodeChoice ℕ ℕ) (i : ℕ) → length conflict ≤ i → IsWithin (take i conflict) decisions last → IsWithin conflict decisions last
within-whole conflict decisions last i l h = subst (λ xs. IsWithin xs decisions last) (take-whole conflict i l) h

pub within-same : (decisions : List (NodeChoice ℕ ℕ)) (last c : NodeChoice ℕ ℕ) → last ≡ c → IsWithin (c ∷ []) decisions last
within-same decisions last c e d i = elim (Contains-cons_cases c [] d i) [ inl f ↦ inr (e ∙ f) | inr r ↦ absurd (Contains-nil d r) ]

pub within-assigned : (decisions : List (NodeChoice ℕ ℕ)) (last c : NodeChoice ℕ ℕ) → Contains decisions c → IsWithin (c ∷ []) decisions last
within-assigned decisions last c h d i = elim (Contains-cons_cases c [] d i) [ inl f ↦ inl (subst (λ x. Contains decisions x) f h) | inr r ↦ absurd (Contains-nil d r) ]

pub gathers-nothing : (old left_out : List (NodeChoice ℕ ℕ)) → Gathers old old [] left_out
gathers-nothing old left_out = record {
  kept = λ x i. i;
  added = λ x i. absurd (Contains-nil x i);
  only = λ x i. inl i;
}
