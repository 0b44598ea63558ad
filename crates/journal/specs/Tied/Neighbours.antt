-- The states of a history, found from the present one by the changes.
-- Tied to `AreSteps` by the invariant of `ChangeHistory`; need not be read.
use Rattle.std.specs.Prelude.{ℕ, zero, suc, ◌≤◌, List, [], ◌∷◌, length}
use Rattle.std.specs.List.{AllByRecursion}
use Rattle.changes.specs.Changes.{ChangeParts, inverse}
use Rattle.states.specs.State.{IsState}
use Rattle.changes.specs.Tied.Carried.{carried}
use Rattle.journal.specs.Values.{State}
use Rattle.journal.specs.Changes.{AreSteps}

-- the states that changes lead on to
abbrev pub states_on : State → List ChangeParts → List State
states_on state [] = []
states_on state (change ∷ changes) = carried state change ∷ states_on (carried state change) changes

-- the state that a change leads back to, in front of others
abbrev pub with_before : ChangeParts → List State → List State
with_before change [] = []
with_before change (state ∷ states) = carried state (inverse change) ∷ state ∷ states

-- all states, where the present one stands behind so many changes
abbrev pub states_of : State → List ChangeParts → ℕ → List State
states_of state changes zero = state ∷ states_on state changes
states_of state [] (suc cursor) = state ∷ []
states_of state (change ∷ changes) (suc cursor) = with_before change (states_of state changes cursor)

-- the changes lead from each of these states to the next, and all of them are lawful
pub record IsHistory (state : State) (changes : List ChangeParts) (cursor : ℕ) : Type 0 where
  pub within : cursor ≤ length changes
  pub steps : AreSteps (states_of state changes cursor) changes
  pub lawful : AllByRecursion IsState (states_of state changes cursor)
