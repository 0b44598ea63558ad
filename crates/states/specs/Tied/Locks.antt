-- One target, locked.
use Rattle.std.specs.Prelude.{ℕ, List}
use Rattle.problems.specs.Problem.{ProblemParts}
use Rattle.states.specs.Locks.{IsTargetLocked}
use Rattle.states.specs.State.{IsLockFor}
use Rattle.states.specs.declared.target.Target.{Target}

-- the target of a name and a problem is locked, and its lock is one for these lines over the problem's index
pub record IsTargetFor (lines : List (List ℕ)) (given : List ℕ × ProblemParts) (target : Target) : Type 0 where
  pub locked : IsTargetLocked given target
  pub fits : IsLockFor lines target.environment target.lock
