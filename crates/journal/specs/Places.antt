-- What differs between two places of a history. All of it is reqlock's own rule.
use Rattle.std.specs.Prelude.{◌≡◌, ℕ, Some, slice_get}
use Rattle.changes.specs.Changes.{ChangeParts}
use Rattle.changes.specs.Differences.{IsDifference}
use Rattle.journal.specs.Values.{State}
use Rattle.journal.specs.Past.{Past}

-- a change is the difference of the states at two places of a history, in this order
pub record IsBetween (past : Past) (from to : ℕ) (change : ChangeParts) : Type 0 where
  pub old : State
  pub new : State
  pub old_is : slice_get past.states from ≡ Some old
  pub new_is : slice_get past.states to ≡ Some new
  pub difference : IsDifference old change new
