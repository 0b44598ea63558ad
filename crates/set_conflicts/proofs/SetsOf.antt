-- Sets of the places of a list, and a set for each node.
use Rattle.std.proofs.Common.{ℕ, zero, suc, ◌⊎◌, refl, List, [], ◌∷◌, ◌++◌, ◌≡◌, ◌<◌, ◌+◌, inl, inr, Contains, length, take, get_or, sym, ◌∙◌, ap, subst, arith, add-one, length-append}
use Rattle.lists.proofs.Members.{Contains-cons_cases, Contains-here, Contains-nil, Contains-take_suc}
use Rattle.lists.specs.Bits.{IsJoined, LiesWithin}
use Rattle.set_conflicts.proofs.Listed.{at-member}

pub all-more : (xs : List ℕ) (i : ℕ) (old new : List ℕ) → i < length xs → LiesWithin (take i xs) old → IsJoined new old (get_or xs i 0 ∷ []) → LiesWithin (take (i + 1) xs) new
all-more xs i old new l h joined w j = elim (Contains-take_suc xs i 0 w l (rw add-one at j)) [
  | inl a ↦ (joined w).1 (inl (h w a))
  | inr e ↦ (joined w).1 (inr (subst (λ x. Contains (get_or xs i 0 ∷ []) x) e (Contains-here (get_or xs i 0) [])))
]

pub only-more : (xs : List ℕ) (i : ℕ) (old new : List ℕ) → i < length xs → LiesWithin old xs → IsJoined new old (get_or xs i 0 ∷ []) → LiesWithin new xs
only-more xs i old new l h joined w j = elim ((joined w).0 j) [
  | inl a ↦ h w a
  | inr b ↦ elim (Contains-cons_cases (get_or xs i 0) [] w b) [
    | inl e ↦ subst (λ x. Contains xs x) e (at-member xs i 0 l)
    | inr none ↦ absurd (Contains-nil w none)
  ]
]

-- ---- a set for each node

push-cases : (sets : List (List ℕ)) (set : List ℕ) (node : ℕ) → node < length (sets ++ set ∷ []) → ((node < length sets) × (get_or (sets ++ set ∷ []) node [] ≡ get_or sets node [])) ⊎ ((length sets ≡ node) × (get_or (sets ++ set ∷ []) node [] ≡ set))
push-cases [] set zero l = inr (refl, refl)
push-cases [] set (suc node) l = absurd (omega arith)
push-cases (x ∷ sets) set zero l = inl (omega arith, refl)
push-cases (x ∷ sets) set (suc node) l = elim (push-cases sets set node (omega arith)) [
  | inl a ↦ let below = a.0 in inl (omega arith, a.1)
  | inr b ↦ inr (ap (λ n. suc n) b.0, b.1)
]

pub each-pushed : (P : ℕ → List ℕ → Type 0) (sets new : List (List ℕ)) (set : List ℕ) → new ≡ sets ++ set ∷ []
    → ((n : ℕ) → n < length sets → P n (get_or sets n [])) → P (length sets) set → (n : ℕ) → n < length new → P n (get_or new n [])
each-pushed P sets new set is h k n l = elim (push-cases sets set n (subst (λ (xs : List (List ℕ)). n < length xs) is l)) [
  | inl a ↦ subst (λ xs. P n xs) (sym (ap (λ (xs : List (List ℕ)). get_or xs n []) is ∙ a.1)) (h n a.0)
  | inr b ↦ subst (λ xs. P n xs) (sym (ap (λ (xs : List (List ℕ)). get_or xs n []) is ∙ b.1)) (subst (λ m. P m set) b.0 k)
]

pub pushed-room : (sets new : List (List ℕ)) (set : List ℕ) (at : ℕ) → new ≡ sets ++ set ∷ [] → length sets ≡ at → length new ≡ at + 1
pushed-room sets new set at is room = let e = ap length is in omega (arith, e, room, length-append sets (set ∷ []))
