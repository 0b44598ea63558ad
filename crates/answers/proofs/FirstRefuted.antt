-- One more problem that has a solution.
use Rattle.std.proofs.Common.{◌≡◌, ◌<◌, ◌+◌, ◌⊎◌, ℕ, zero, suc, List, length, get_or, refl, sym, ap, subst, inl, inr, arith}
use Rattle.lists.proofs.Members.{get_or-any}
use Rattle.problems.specs.Problem.{ProblemParts}
use Rattle.answers.specs.Answers.{AreSolvableBefore, IsSolvable}

below-or-at : (k n : ℕ) → k < n + 1 → (k < n) ⊎ (k ≡ n)
below-or-at zero zero l = inr refl
below-or-at zero (suc n) l = inl (omega arith)
below-or-at (suc k) zero l = absurd (omega arith)
below-or-at (suc k) (suc n) l = elim (below-or-at k n (omega arith)) [
  | inl less ↦ inl (omega arith)
  | inr is ↦ inr (ap suc is)
]

pub solvable-more : (problems : List (List ℕ × ProblemParts)) (place : ℕ) (e : List ℕ × ProblemParts) → place < length problems → AreSolvableBefore problems place → IsSolvable (get_or problems place e) → AreSolvableBefore problems (place + 1)
solvable-more problems place e within before one k d l = elim (below-or-at k place l) [
  | inl less ↦ before k d less
  | inr is ↦ subst (λ j. IsSolvable (get_or problems j d)) (sym is) (subst IsSolvable (get_or-any problems place e d within) one)
]
