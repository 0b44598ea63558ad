-- What marks say of a set of nodes.
use Rattle.std.proofs.Common.{ℕ, zero, suc, List, [], ◌∷◌, ◌++◌, ◌≡◌, ◌<◌, ◌≤◌, inl, inr, Contains, length, get_or, slice_set, refl, sym, ◌∙◌, ap, subst, arith, Bool, true, false, append-nil}
use Rattle.std.proofs.Math.ListN.{replicate}
use Rattle.std.proofs.lemmas.List.Elements.{Contains-append_left, Contains-append_right, Contains-append_cases, Contains-push, Contains-push_cases}
use Rattle.search.proofs.Counts.{Distinct-push, distinct-below}
use Rattle.lists.proofs.Members.{Contains-cons_cases, Contains-nil, nat_cases}
use Rattle.search.specs.Tied.Nodes.{IsMarked, Grows}

pub no-marks : (room node : ℕ) → get_or (replicate room false) node false ≡ false
no-marks zero node = refl
no-marks (suc room) zero = refl
no-marks (suc room) (suc node) = no-marks room node

pub marked-none : (room : ℕ) → IsMarked [] (replicate room false)
marked-none room = record {
  distinct = tt;
  marked = λ node i. absurd (Contains-nil node i);
  member = λ node e. absurd (let k : false ≡ true = sym (no-marks room node) ∙ e in cc);
}

pub marked-below : (marks : List Bool) (node : ℕ) → get_or marks node false ≡ true → node < length marks
marked-below [] node e = absurd (cc)
marked-below (m ∷ ms) zero e = omega arith
marked-below (m ∷ ms) (suc node) e = let k = marked-below ms node e in omega arith

pub members-within : (members : List ℕ) (marks : List Bool) → IsMarked members marks → length members ≤ length marks
members-within members marks h = distinct-below (length marks) members h.distinct (λ node i. marked-below marks node (h.marked node i))

pub set-same : {X : Type 0} (xs : List X) (k : ℕ) (x d : X) → k < length xs → get_or (slice_set xs k x) k d ≡ x
set-same [] k x d l = absurd (omega arith)
set-same (y ∷ ys) zero x d l = refl
set-same (y ∷ ys) (suc k) x d l = set-same ys k x d (omega arith)

pub set-other : {X : Type 0} (xs : List X) (k i : ℕ) (x d : X) → (k ≡ i → ⊥) → get_or (slice_set xs k x) i d ≡ get_or xs i d
set-other [] k i x d h = refl
set-other (y ∷ ys) zero zero x d h = absurd (h refl)
set-other (y ∷ ys) zero (suc i) x d h = refl
set-other (y ∷ ys) (suc k) zero x d h = refl
set-other (y ∷ ys) (suc k) (suc i) x d h = set-other ys k i x d (λ e. h (ap (λ n. suc n) e))

pub marked-push : (members : List ℕ) (marks : List Bool) (node : ℕ) → IsMarked members marks → node < length marks → get_or marks node false ≡ false → IsMarked (members ++ node ∷ []) (slice_set marks node true)
marked-push members marks node h l off = record {
  distinct = Distinct-push members node h.distinct (λ i. let k : true ≡ false = sym (h.marked node i) ∙ off in cc);
  marked = λ other i. elim (nat_cases node other) [
    | inl e ↦ subst (λ m. get_or (slice_set marks node true) m false ≡ true) e (set-same marks node true false l)
    | inr d ↦ elim (Contains-push_cases members node other i) [
      | inl a ↦ set-other marks node other true false d ∙ h.marked other a
      | inr e ↦ absurd (d e)
    ]
  ];
  member = λ other e. elim (nat_cases node other) [
    | inl f ↦ subst (λ m. Contains (members ++ node ∷ []) m) f (Contains-push members node)
    | inr d ↦ Contains-append_left members (node ∷ []) other (h.member other (sym (set-other marks node other true false d) ∙ e))
  ];
}

pub Grows-none : (old : List ℕ) → Grows old old []
Grows-none old = record {
  more = [];
  extended = sym (append-nil old);
  added = λ node h. absurd (Contains-nil node h);
  only = λ node h. inl h;
}

pub Grows-there : (old : List ℕ) (node : ℕ) → Contains old node → Grows old old (node ∷ [])
Grows-there old node h = record {
  more = [];
  extended = sym (append-nil old);
  added = λ other k. elim (Contains-cons_cases node [] other k) [ inl e ↦ subst (λ n. Contains old n) e h | inr r ↦ absurd (Contains-nil other r) ];
  only = λ other k. inl k;
}

pub Grows-push : (old : List ℕ) (node : ℕ) → Grows old (old ++ node ∷ []) (node ∷ [])
Grows-push old node = record {
  more = node ∷ [];
  extended = refl;
  added = λ other k. Contains-append_right old (node ∷ []) other k;
  only = λ other k. Contains-append_cases old (node ∷ []) other k;
}

pub set-length : {X : Type 0} (xs : List X) (k : ℕ) (x : X) → length (slice_set xs k x) ≡ length xs
set-length [] k x = refl
set-length (y ∷ ys) zero x = refl
set-length (y ∷ ys) (suc k) x = ap (λ n. suc n) (set-length ys k x)
