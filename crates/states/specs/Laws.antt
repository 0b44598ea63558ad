-- The law of locks.
use Rattle.std.specs.Prelude.{◌≡◌}
use Rattle.problems.specs.Problem.{ProblemParts}
use Rattle.pylock.specs.Locks.{LockParts}
use Rattle.states.specs.Locks.{IsLockOf}

-- two locks of one problem are the same in every part
abbrev pub TheLockOfAProblemIsOne : Type 0
TheLockOfAProblemIsOne = (given : ProblemParts) (one another : LockParts) → IsLockOf given one → IsLockOf given another → one ≡ another
