-- Targets that fit lines, as it is decided.
use Rattle.std.proofs.Common.{◌≡◌, ◌≢◌, ◌<◌, ℕ, zero, suc, true, List, [], ◌∷◌, Ok, length, get_or, map, take, sym, ap, subst, inl, inr, arith}
use Rattle.std.specs.List.{AllByRecursion, concat}
use Rattle.pep508.specs.Requirement.{file_of}
use Rattle.pylock.specs.Order.{rises}
use Rattle.states.specs.State.{Fits, IsFirstUnfit, IsLockFor, IsState}
use Rattle.states.specs.StateParts.{StateParts, digest_of}
use Rattle.states.specs.declared.target.Target.{Target}

-- the first that doesn't fit, behind targets that do
pub unfit-at : (lines : List (List ℕ)) (digest : List ℕ) (targets : List Target) (i : ℕ) (t : Target) → i < length targets → t ≡ get_or targets i t
    → AllByRecursion (Fits lines digest) (take i targets) → (Fits lines digest t → ⊥) → IsFirstUnfit lines digest targets t.name
unfit-at lines digest [] i t within is all none = absurd (omega arith)
unfit-at lines digest (x ∷ xs) zero t within is all none = inr ((λ fits. none (subst (Fits lines digest) (sym is) fits)), ap (λ (y : Target). y.name) is)
unfit-at lines digest (x ∷ xs) (suc i) t within is all none = inl (all.0, unfit-at lines digest xs i t (omega arith) is all.1 none)

-- where there is one, not all fit
pub not-all : (lines : List (List ℕ)) (digest : List ℕ) (targets : List Target) (name : List ℕ) → IsFirstUnfit lines digest targets name → AllByRecursion (Fits lines digest) targets → ⊥
not-all lines digest [] name first all = first
not-all lines digest (t ∷ rest) name first all = elim first [
  | inl more ↦ not-all lines digest rest name more.1 all.1
  | inr here ↦ here.0 all.0
]

locks-of : (lines : List (List ℕ)) (digest : List ℕ) (targets : List Target) → AllByRecursion (Fits lines digest) targets → AllByRecursion (λ t. IsLockFor lines t.environment t.lock) targets
locks-of lines digest [] all = tt
locks-of lines digest (t ∷ rest) all = (all.0.0, locks-of lines digest rest all.1)

digests-of : (lines : List (List ℕ)) (digest : List ℕ) (targets : List Target) → AllByRecursion (Fits lines digest) targets → AllByRecursion (λ t. t.lock.snapshot ≡ digest) targets
digests-of lines digest [] all = tt
digests-of lines digest (t ∷ rest) all = (all.0.1, digests-of lines digest rest all.1)

fits-of : (lines : List (List ℕ)) (digest : List ℕ) (targets : List Target) → AllByRecursion (λ t. IsLockFor lines t.environment t.lock) targets → AllByRecursion (λ t. t.lock.snapshot ≡ digest) targets
    → AllByRecursion (Fits lines digest) targets
fits-of lines digest [] locks digests = tt
fits-of lines digest (t ∷ rest) locks digests = ((locks.0, digests.0), fits-of lines digest rest locks.1 digests.1)

pub IsState-fits : (state : StateParts) → file_of (concat state.lines) ≡ Ok state.lines → state.targets ≢ [] → rises (map (λ t. t.name) state.targets) ≡ true
    → AllByRecursion (Fits state.lines (digest_of state.targets)) state.targets → IsState state
IsState-fits state lines some rising all = record {
  lines = lines;
  some = some;
  rising = rising;
  locks = locks-of state.lines (digest_of state.targets) state.targets all;
  digest = digests-of state.lines (digest_of state.targets) state.targets all;
}

pub fits-all : (state : StateParts) → IsState state → AllByRecursion (Fits state.lines (digest_of state.targets)) state.targets
fits-all state is = fits-of state.lines (digest_of state.targets) state.targets is.locks is.digest
