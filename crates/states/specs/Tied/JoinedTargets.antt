-- Targets with their locks.
use Rattle.std.specs.Prelude.{◌≡◌, ℕ, List, map}
use Rattle.markers.specs.Environment.{Texts}
use Rattle.pylock.specs.Locks.{LockParts}
use Rattle.states.specs.declared.target.Target.{Target}

-- targets have these names and environments, and these locks
pub record HaveParts (pairs : List (List ℕ × Texts)) (locks : List LockParts) (targets : List Target) : Type 0 where
  pub pairs_are : map (λ t. (t.name, t.environment)) targets ≡ pairs
  pub locks_are : map (λ t. t.lock) targets ≡ locks
