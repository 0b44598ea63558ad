-- What `why` shows of several targets. All of it is reqlock's own rule.
use Rattle.std.specs.Prelude.{◌≡◌, ℕ, ◌<◌, List, Some, slice_get, slice_index_or}
use Rattle.problems.specs.Problem.{ProblemParts}
use Rattle.problems.specs.Solutions.{HasSolution}

-- a problem of a target has a solution
abbrev pub IsSolvable : List ℕ × ProblemParts → Type 0
IsSolvable problem = HasSolution problem.1

-- each problem in front of a place has a solution
abbrev pub AreSolvableBefore : List (List ℕ × ProblemParts) → ℕ → Type 0
AreSolvableBefore problems place = (k : ℕ) (d : List ℕ × ProblemParts) → k < place → IsSolvable (slice_index_or problems k d)

-- the problem in a place is the first without a solution, as is shown by what shows that of a problem
pub record IsFirstRefuted {A : Type 0} (shows_none : ProblemParts → A → Type 0) (problems : List (List ℕ × ProblemParts)) (refuted : ℕ × A) : Type 0 where
  pub before : AreSolvableBefore problems refuted.0
  pub problem : List ℕ × ProblemParts
  pub stands : slice_get problems refuted.0 ≡ Some problem
  pub shows : shows_none problem.1 refuted.1
