-- The states that the steps of a journal lead to, one after the other.
use Rattle.std.proofs.Common.{◌≡◌, ◌⊎◌, ℕ, ◌+◌, ◌<◌, ◌≤◌, List, [], ◌∷◌, ◌++◌, length, get_or, drop, Result, Ok, Err, refl, sym, ap, subst, ◌∙◌, inl, inr, arith}
use Rattle.std.proofs.lemmas.List.{append-nil, drop_all, drop_more}
use Rattle.changes.specs.Changes.{ChangeParts, Leads}
use Rattle.states.specs.declared.refusal.Refusal.TheVariants.{JournalBroken}
use Rattle.journal.specs.Values.{State, Refusal, OutOfMemory}
use Rattle.journal.specs.Opens.{StatesBehind}
use Rattle.journal.proofs.StepFacts.{before, before-more}

-- the last of the states, or else this one
abbrev pub last_or : State → List State → State
last_or state [] = state
last_or state (next ∷ states) = last_or next states

pub last_or-more : (first : State) (states : List State) (next : State) → last_or first (states ++ next ∷ []) ≡ next
last_or-more first [] next = refl
last_or-more first (s ∷ states) next = last_or-more s states next

-- ---- onwards

-- the changes before a place lead to these states: what the others answer goes behind them
abbrev pub LedSoFar : ℕ → List ChangeParts → State → ℕ → List State → Type 0
LedSoFar number changes present place states = (answer : Result (List State) Refusal) → StatesBehind (number + place) (drop place changes) (last_or present states) answer → StatesBehind number changes present (before states answer)

a_state : (number : ℕ) (change : ChangeParts) (changes : List ChangeParts) (state next : State) (rest : Result (List State) Refusal) → Leads state change next
    → StatesBehind (number + 1) changes next rest → StatesBehind number (change ∷ changes) state (before (next ∷ []) rest)
a_state number change changes state next (Ok xs) leads h = inl (next, leads, (Ok xs, h, refl))
a_state number change changes state next (Err refusal) leads h = inl (next, leads, (Err refusal, h, refl))

nothing_led : (number : ℕ) (changes : List ChangeParts) (present : State) → LedSoFar number changes present 0 []
nothing_led number changes present (Ok states) h =
    let line : number + 0 ≡ number = omega arith in
    subst (λ n. StatesBehind n changes present (Ok states)) line h
nothing_led number changes present (Err refusal) h =
    let line : number + 0 ≡ number = omega arith in
    subst (λ n. StatesBehind n changes present (Err refusal)) line h

module _ (number : ℕ) (changes : List ChangeParts) (present : State) (place : ℕ) (states : List State) (so_far : LedSoFar number changes present place states) where
  -- the next change leads to a state
  pub one_more : (change : ChangeParts) (next : State) → place < length changes → change ≡ get_or changes place change → Leads (last_or present states) change next
      → LedSoFar number changes present (place + 1) (states ++ next ∷ [])
  one_more change next below is leads answer h =
      let at : drop place changes ≡ change ∷ drop (place + 1) changes = drop_more changes place change below ∙ ap (λ c. c ∷ drop (place + 1) changes) (sym is) in
      let line : number + (place + 1) ≡ (number + place) + 1 = omega arith in
      let tail : StatesBehind ((number + place) + 1) (drop (place + 1) changes) next answer =
      subst (λ n. StatesBehind n (drop (place + 1) changes) next answer) line (subst (λ s. StatesBehind (number + (place + 1)) (drop (place + 1) changes) s answer) (last_or-more present states next) h) in
      let whole : StatesBehind (number + place) (drop place changes) (last_or present states) (before (next ∷ []) answer) =
      subst (λ cs. StatesBehind (number + place) cs (last_or present states) (before (next ∷ []) answer)) (sym at) (a_state (number + place) change (drop (place + 1) changes) (last_or present states) next answer leads tail) in
      subst (λ a. StatesBehind number changes present a) (before-more states next answer) (so_far (before (next ∷ []) answer) whole)

  -- the next change leads nowhere
  pub no_state : (change : ChangeParts) → place < length changes → change ≡ get_or changes place change → ((next : State) → Leads (last_or present states) change next → ⊥)
      → StatesBehind number changes present (Err (JournalBroken (number + place)))
  no_state change below is none =
      let at : drop place changes ≡ change ∷ drop (place + 1) changes = drop_more changes place change below ∙ ap (λ c. c ∷ drop (place + 1) changes) (sym is) in
      so_far (Err (JournalBroken (number + place)))
      (subst (λ cs. StatesBehind (number + place) cs (last_or present states) (Err (JournalBroken (number + place)))) (sym at) (inr (none, refl)))

  -- all changes lead on
  pub all_led : length changes ≤ place → StatesBehind number changes present (Ok states)
  all_led past =
      let whole : StatesBehind number changes present (before states (Ok [])) =
      so_far (Ok []) (subst (λ cs. StatesBehind (number + place) cs (last_or present states) (Ok [])) (sym (drop_all place changes past)) refl) in
      subst (λ xs. StatesBehind number changes present (Ok xs)) (append-nil states) whole

  -- the next change leads nowhere, or memory is refused
  pub refused : (e : Refusal) (change : ChangeParts) → place < length changes → change ≡ get_or changes place change
      → (e ≡ OutOfMemory) ⊎ ((e ≡ JournalBroken (number + place)) × ((next : State) → Leads (last_or present states) change next → ⊥))
      → (e ≡ OutOfMemory) ⊎ StatesBehind number changes present (Err e)
  refused e change below is (inl memory) = inl memory
  refused e change below is (inr broken) = inr (subst (λ r. StatesBehind number changes present (Err r)) (sym broken.0) (no_state change below is broken.1))

-- ---- one state at a time

-- the changes before a place lead on to this state
pub record IsLedOn (number : ℕ) (changes : List ChangeParts) (present : State) (place : ℕ) (state : State) : Type 0 where
  pub states : List State
  pub led : LedSoFar number changes present place states
  pub here : last_or present states ≡ state

pub start_on : (number : ℕ) (changes : List ChangeParts) (present state : State) → state ≡ present → IsLedOn number changes present 0 state
start_on number changes present state same = record { states = []; led = nothing_led number changes present; here = sym same }

module _ (number : ℕ) (changes : List ChangeParts) (present : State) (place : ℕ) (state : State) (is : IsLedOn number changes present place state) (change : ChangeParts)
    (below : place < length changes) (at_place : change ≡ get_or changes place change) where
  -- the next change leads on to a state
  pub turned_on : (next : State) → Leads state change next → IsLedOn number changes present (place + 1) next
  turned_on next leads = record {
    states = is.states ++ next ∷ [];
    led = one_more number changes present place is.states is.led change next below at_place (subst (λ s. Leads s change next) (sym is.here) leads);
    here = last_or-more present is.states next;
  }

  -- it leads nowhere, or memory is refused
  pub stopped_on : (e : Refusal) → (e ≡ OutOfMemory) ⊎ ((e ≡ JournalBroken (number + place)) × ((next : State) → Leads state change next → ⊥))
      → (e ≡ OutOfMemory) ⊎ StatesBehind number changes present (Err e)
  stopped_on e none =
      refused number changes present place is.states is.led e change below at_place
      (subst (λ s. (e ≡ OutOfMemory) ⊎ ((e ≡ JournalBroken (number + place)) × ((next : State) → Leads s change next → ⊥))) (sym is.here) none)

-- all changes lead on to the last state
pub walked_on : (number : ℕ) (changes : List ChangeParts) (present : State) (place : ℕ) (state : State) → IsLedOn number changes present place state → length changes ≤ place
    → (states : List State) × StatesBehind number changes present (Ok states)
walked_on number changes present place state is past = (is.states, all_led number changes present place is.states is.led past)
