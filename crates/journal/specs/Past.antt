-- A history as its states and a cursor. All of it is reqlock's own rule.
use Rattle.std.specs.Prelude.{ℕ, ◌≡◌, ◌+◌, ◌-◌, ◌<◌, ◌≤◌, List, [], ◌∷◌, ◌++◌, Option, length, take, slice_get}
use Rattle.journal.specs.Values.{State}

-- the states since the start, and the place of the present one, from 0
pub record Past : Type 0 where
  pub states : List State
  pub cursor : ℕ

-- the state at the cursor
abbrev pub present : Past → Option State
present past = slice_get past.states past.cursor

-- the same states, with the cursor here
abbrev pub moved : Past → ℕ → Past
moved past place = record { states = past.states; cursor = place }

-- one state, and the cursor on it
abbrev pub starts : State → Past
starts state = record { states = state ∷ []; cursor = 0 }

-- what follows the cursor is cut, the new state put there and the cursor moved to it
abbrev pub pushed : Past → State → Past
pushed past state = record { states = take (past.cursor + 1) past.states ++ state ∷ []; cursor = past.cursor + 1 }

-- no state stands before the present one
abbrev pub IsAtStart : Past → Type 0
IsAtStart past = past.cursor ≡ 0

-- no state follows the present one
abbrev pub IsAtEnd : Past → Type 0
IsAtEnd past = length past.states ≤ past.cursor + 1

-- a state stands before the present one, and the cursor moved to it
abbrev pub IsUndone : Past → Past → Type 0
IsUndone old new = (0 < old.cursor) × (new ≡ moved old (old.cursor - 1))

-- a state follows the present one, and the cursor moved to it
abbrev pub IsRedone : Past → Past → Type 0
IsRedone old new = (old.cursor + 1 < length old.states) × (new ≡ moved old (old.cursor + 1))
