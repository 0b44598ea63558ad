-- States at places of a history.
use Rattle.std.proofs.Common.{◌≡◌, ◌+◌, ◌-◌, ℕ, List, Some, sym, ap, ◌∙◌, subst, arith}
use Rattle.std.specs.Prelude.{slice_get}
use Rattle.std.specs.List.{AllByRecursion}
use Rattle.changes.specs.Changes.{After, ChangeParts, Leads, inverse}
use Rattle.states.specs.State.{IsState}
use Rattle.changes.proofs.ChangeFacts.{After-inverse}
use Rattle.changes.proofs.WholeDifference.{IsDifference-inverse}
use Rattle.changes.proofs.OneOutcome.{After-one}
use Rattle.journal.specs.Values.{State}
use Rattle.journal.specs.Changes.{IsStepOf}
use Rattle.journal.specs.Past.{Past}
use Rattle.journal.specs.Places.{IsBetween}
use Rattle.journal.proofs.Neighbours.{all-get, one-get}

-- ---- one step

module _ (past : Past) (place : ℕ) (change : ChangeParts) (state : State) (step : IsStepOf past place change) (lawful : AllByRecursion IsState past.states) where
  -- the change leads on from the state in front
  pub leads-on : slice_get past.states (place - 1) ≡ Some state → Leads state change step.new
  leads-on at =
      let here = one-get past.states (place - 1) step.old state step.old_is at in
      (subst (λ (s : State). After s change step.new) here step.leads.leads, all-get IsState past.states place step.new step.new_is lawful)

  -- and to the state behind alone
  pub moved-on : (new : State) → slice_get past.states (place - 1) ≡ Some state → Leads state change new → slice_get past.states place ≡ Some new
  moved-on new at leads = step.new_is ∙ ap Some (After-one change state step.new new (leads-on at).0 leads.0)

  -- its inverse leads back from the state behind
  pub leads-back : slice_get past.states place ≡ Some state → Leads state (inverse change) step.old
  leads-back at =
      let here = one-get past.states place step.new state step.new_is at in
      (subst (λ (s : State). After s (inverse change) step.old) here (After-inverse change step.old step.new step.leads.leads), all-get IsState past.states (place - 1) step.old step.old_is lawful)

  -- and to the state in front alone
  pub moved-back : (new : State) → slice_get past.states place ≡ Some state → Leads state (inverse change) new → slice_get past.states (place - 1) ≡ Some new
  moved-back new at leads = step.old_is ∙ ap Some (After-one (inverse change) state step.old new (leads-back at).0 leads.0)

-- ---- as the code has it

-- the inverse of a step's change leads to the state in front
pub step-back : (past : Past) (place : ℕ) (change : ChangeParts) (state : State) (back : ChangeParts) → IsStepOf past place change → AllByRecursion IsState past.states
    → slice_get past.states place ≡ Some state → back ≡ inverse change → (x : State) × Leads state back x
step-back past place change state back step lawful at inverted =
    subst (λ (b : ChangeParts). (x : State) × Leads state b x) (sym inverted) (step.old, leads-back past place change state step lawful at)

-- and to it alone
pub stepped-back : (past : Past) (place : ℕ) (change : ChangeParts) (state : State) (back : ChangeParts) (new : State) → IsStepOf past place change → AllByRecursion IsState past.states
    → slice_get past.states place ≡ Some state → back ≡ inverse change → Leads state back new → slice_get past.states (place - 1) ≡ Some new
stepped-back past place change state back new step lawful at inverted leads =
    moved-back past place change state step lawful new at (subst (λ (b : ChangeParts). Leads state b new) inverted leads)

-- the change of the step behind a place leads to the state there alone
pub stepped-on : (past : Past) (place : ℕ) (change : ChangeParts) (state new : State) → IsStepOf past (place + 1) change → AllByRecursion IsState past.states
    → slice_get past.states place ≡ Some state → Leads state change new → slice_get past.states (place + 1) ≡ Some new
stepped-on past place change state new step lawful at leads =
    let here : place ≡ place + 1 - 1 = omega arith in
    moved-on past (place + 1) change state step lawful new (subst (λ (k : ℕ). slice_get past.states k ≡ Some state) here at) leads

-- a place written otherwise
pub at-place : (states : List State) (one other : ℕ) (state : State) → one ≡ other → slice_get states one ≡ Some state → slice_get states other ≡ Some state
at-place states one other state same at = subst (λ (k : ℕ). slice_get states k ≡ Some state) same at

-- ---- two places

-- the way back is the inverse of the way there
pub between-back : (past : Past) (from to : ℕ) (change : ChangeParts) → IsBetween past from to change → IsBetween past to from (inverse change)
between-back past from to change is = record { old = is.new; new = is.old; old_is = is.new_is; new_is = is.old_is; difference = IsDifference-inverse change is.old is.new is.difference }
