-- The steps of a history: the change from each state to the next. All of it is reqlock's own rule.
use Rattle.std.specs.Prelude.{◌≡◌, ℕ, ◌-◌, List, [], ◌∷◌, ◌++◌, Some, slice_get, take}
use Rattle.changes.specs.Changes.{After, ChangeParts, IsMinimal}
use Rattle.journal.specs.Values.{State}
use Rattle.journal.specs.Past.{Past}

-- a minimal change leads from one state to another
pub record IsChange (old : State) (change : ChangeParts) (new : State) : Type 0 where
  pub minimal : IsMinimal change
  pub leads : After old change new

-- a change for each state but the first, which leads to it from the state before
abbrev pub AreSteps : List State → List ChangeParts → Type 0
AreSteps [] changes = ⊥
AreSteps (state ∷ []) [] = Unit {0}
AreSteps (state ∷ []) (change ∷ changes) = ⊥
AreSteps (state ∷ next ∷ states) [] = ⊥
AreSteps (state ∷ next ∷ states) (change ∷ changes) = IsChange state change next × AreSteps (next ∷ states) changes

-- the change is step k of a history, from 1: it leads from state k - 1 to state k
pub record IsStepOf (past : Past) (k : ℕ) (change : ChangeParts) : Type 0 where
  pub old : State
  pub new : State
  pub old_is : slice_get past.states (k - 1) ≡ Some old
  pub new_is : slice_get past.states k ≡ Some new
  pub leads : IsChange old change new

-- the changes up to a cursor, and a new one behind them
abbrev pub with_change : ℕ → List ChangeParts → ChangeParts → List ChangeParts
with_change cursor changes change = take cursor changes ++ change ∷ []

-- a history with the changes of its steps
pub record HistoryParts : Type 0 where
  pub past : Past
  pub changes : List ChangeParts

-- this past with these changes
abbrev pub parts_of : Past → List ChangeParts → HistoryParts
parts_of past changes = record { past = past; changes = changes }
