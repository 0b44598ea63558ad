-- Laws of what changes lead to.
use Rattle.std.specs.Prelude.{◌≡◌, []}
use Rattle.states.specs.State.{IsState}
use Rattle.states.specs.StateParts.{StateParts}
use Rattle.changes.specs.Changes.{After, ChangeParts, IsMinimal, inverse}
use Rattle.changes.specs.Differences.{IsDifference}
use Rattle.changes.specs.Tied.Carried.{carried}

-- a change leads from a state to one state at most, whether it is minimal or not
abbrev pub AChangeLeadsToOneState : Type 0
AChangeLeadsToOneState = (change : ChangeParts) (old one another : StateParts) → After old change one → After old change another → one ≡ another

-- where a minimal change leads is a function of the state and the change
abbrev pub AChangeLeadsWhereItCarries : Type 0
AChangeLeadsWhereItCarries = (change : ChangeParts) (old new : StateParts) → IsMinimal change → After old change new → new ≡ carried old change

-- the inverse of a difference is the difference of the states exchanged
abbrev pub ADifferenceCanBeTakenBack : Type 0
ADifferenceCanBeTakenBack = (change : ChangeParts) (old new : StateParts) → IsDifference old change new → IsDifference new (inverse change) old

-- two states have one difference
abbrev pub TwoStatesHaveOneDifference : Type 0
TwoStatesHaveOneDifference = (old new : StateParts) (one other : ChangeParts) → IsState old → IsDifference old one new → IsDifference old other new → one ≡ other

-- the difference of two states with the same lines has no splice
abbrev pub EqualLinesDifferNowhere : Type 0
EqualLinesDifferNowhere = (change : ChangeParts) (old new : StateParts) → IsDifference old change new → old.lines ≡ new.lines → change.splices ≡ []
