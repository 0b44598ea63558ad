-- The states that the steps of a journal lead back to, one after the other.
use Rattle.std.proofs.Common.{◌≡◌, ◌⊎◌, ℕ, ◌+◌, ◌-◌, ◌<◌, ◌≤◌, List, [], ◌∷◌, ◌++◌, length, get_or, drop, Result, Ok, Err, refl, sym, ap, subst, ◌∙◌, append_assoc, inl, inr, arith}
use Rattle.std.specs.Prelude.{reverse}
use Rattle.std.proofs.Math.ListN.{length-drop}
use Rattle.std.proofs.lemmas.List.{append-nil, drop_all, drop_more, get_or-reverse, length-reverse, reverse-append}
use Rattle.changes.specs.Changes.{ChangeParts, Leads, inverse}
use Rattle.states.specs.declared.refusal.Refusal.TheVariants.{JournalBroken}
use Rattle.journal.specs.Values.{State, Refusal, OutOfMemory}
use Rattle.journal.specs.Opens.{StatesBefore}
use Rattle.journal.proofs.StateFacts.{last_or, last_or-more}

-- what earlier changes answer, with the states that were found, the last one first
abbrev pub behind : List State → Result (List State) Refusal → Result (List State) Refusal
behind states (Ok earlier) = Ok (earlier ++ reverse states)
behind states (Err refusal) = Err refusal

behind-more : (states : List State) (before : State) (earlier : Result (List State) Refusal) → behind states (behind (before ∷ []) earlier) ≡ behind (states ++ before ∷ []) earlier
behind-more states before (Ok earlier) =
    rw reverse-append (ap Ok (append_assoc earlier (before ∷ []) (reverse states)))
behind-more states before (Err refusal) = refl

a_state : (change : ChangeParts) (changes : List ChangeParts) (state before : State) (earlier : Result (List State) Refusal) → Leads state (inverse change) before
    → StatesBefore changes before earlier → StatesBefore (change ∷ changes) state (behind (before ∷ []) earlier)
a_state change changes state before (Ok earlier) leads h = inl (before, leads, (Ok earlier, h, refl))
a_state change changes state before (Err refusal) leads h = inl (before, leads, (Err refusal, h, refl))

-- the last changes lead back to these states: what the others answer goes before them
abbrev pub LedBack : List ChangeParts → State → ℕ → List State → Type 0
LedBack changes present count states =
    (answer : Result (List State) Refusal) → StatesBefore (drop count (reverse changes)) (last_or present states) answer → StatesBefore (reverse changes) present (behind states answer)

pub nothing_led : (changes : List ChangeParts) (present : State) → LedBack changes present 0 []
nothing_led changes present (Ok earlier) h = subst (λ xs. StatesBefore (reverse changes) present (Ok xs)) (sym (append-nil earlier)) h
nothing_led changes present (Err refusal) h = h

module _ (changes : List ChangeParts) (present : State) (count place : ℕ) (states : List State) (so_far : LedBack changes present count states) (change : ChangeParts)
    (below : count < length changes) (place_is : place ≡ length changes - 1 - count) (is : change ≡ get_or changes place change) where
  -- the changes that are left begin with the one in the place
  at : drop count (reverse changes) ≡ change ∷ drop (count + 1) (reverse changes)
  at =
      let within : count < length (reverse changes) = rw length-reverse below in
      let same : get_or (reverse changes) count change ≡ change = get_or-reverse changes count change below ∙ ap (λ n. get_or changes n change) (sym place_is) ∙ sym is in
      drop_more (reverse changes) count change within ∙ ap (λ c. c ∷ drop (count + 1) (reverse changes)) same

  -- before it stand so many others
  left : length (drop (count + 1) (reverse changes)) ≡ place
  left = let n = length-drop (count + 1) (reverse changes) in let whole = length-reverse changes in omega (arith, n, whole)

  -- the next change leads back to a state
  pub one_back : (before : State) → Leads (last_or present states) (inverse change) before → LedBack changes present (count + 1) (states ++ before ∷ [])
  one_back before leads answer h =
      let tail : StatesBefore (drop (count + 1) (reverse changes)) before answer = subst (λ s. StatesBefore (drop (count + 1) (reverse changes)) s answer) (last_or-more present states before) h in
      let whole : StatesBefore (drop count (reverse changes)) (last_or present states) (behind (before ∷ []) answer) =
      subst (λ cs. StatesBefore cs (last_or present states) (behind (before ∷ []) answer)) (sym at) (a_state change (drop (count + 1) (reverse changes)) (last_or present states) before answer leads tail) in
      subst (λ a. StatesBefore (reverse changes) present a) (behind-more states before answer) (so_far (behind (before ∷ []) answer) whole)

  -- the next change leads nowhere
  no_state : ((before : State) → Leads (last_or present states) (inverse change) before → ⊥) → StatesBefore (reverse changes) present (Err (JournalBroken (place + 2)))
  no_state none =
      let broken : StatesBefore (change ∷ drop (count + 1) (reverse changes)) (last_or present states) (Err (JournalBroken (place + 2))) = inr (none, ap (λ n. Err (JournalBroken (n + 2))) (sym left)) in
      so_far (Err (JournalBroken (place + 2))) (subst (λ cs. StatesBefore cs (last_or present states) (Err (JournalBroken (place + 2)))) (sym at) broken)

  -- the next change leads nowhere, or memory is refused
  pub none_back : (e : Refusal) → (e ≡ OutOfMemory) ⊎ ((e ≡ JournalBroken (place + 2)) × ((before : State) → Leads (last_or present states) (inverse change) before → ⊥))
      → (e ≡ OutOfMemory) ⊎ StatesBefore (reverse changes) present (Err e)
  none_back e (inl memory) = inl memory
  none_back e (inr broken) = inr (subst (λ r. StatesBefore (reverse changes) present (Err r)) (sym broken.0) (no_state broken.1))

-- all changes lead back
pub all_back : (changes : List ChangeParts) (present : State) (count : ℕ) (states : List State) → LedBack changes present count states → length changes ≤ count
    → StatesBefore (reverse changes) present (Ok (reverse states))
all_back changes present count states so_far past =
    let within : length (reverse changes) ≤ count = rw length-reverse past in
    so_far (Ok []) (subst (λ cs. StatesBefore cs (last_or present states) (Ok [])) (sym (drop_all count (reverse changes) within)) refl)

-- ---- one state at a time

-- the last changes lead back to this state
pub record IsLedBack (changes : List ChangeParts) (present : State) (count : ℕ) (state : State) : Type 0 where
  pub states : List State
  pub led : LedBack changes present count states
  pub here : last_or present states ≡ state

pub start_back : (changes : List ChangeParts) (present state : State) → state ≡ present → IsLedBack changes present 0 state
start_back changes present state same = record { states = []; led = nothing_led changes present; here = sym same }

module _ (changes : List ChangeParts) (present : State) (count place : ℕ) (state : State) (is : IsLedBack changes present count state) (change : ChangeParts)
    (below : count < length changes) (place_is : place ≡ length changes - 1 - count) (at_place : change ≡ get_or changes place change) where
  -- the next change leads back to a state
  pub turned_back : (before : State) → Leads state (inverse change) before → IsLedBack changes present (count + 1) before
  turned_back before leads = record {
    states = is.states ++ before ∷ [];
    led = one_back changes present count place is.states is.led change below place_is at_place before (subst (λ s. Leads s (inverse change) before) (sym is.here) leads);
    here = last_or-more present is.states before;
  }

  -- it leads nowhere, or memory is refused
  pub stopped_back : (e : Refusal) → (e ≡ OutOfMemory) ⊎ ((e ≡ JournalBroken (place + 2)) × ((before : State) → Leads state (inverse change) before → ⊥))
      → (e ≡ OutOfMemory) ⊎ StatesBefore (reverse changes) present (Err e)
  stopped_back e refused =
      none_back changes present count place is.states is.led change below place_is at_place e
      (subst (λ s. (e ≡ OutOfMemory) ⊎ ((e ≡ JournalBroken (place + 2)) × ((before : State) → Leads s (inverse change) before → ⊥))) (sym is.here) refused)

-- all changes lead back to the first state
pub walked_back : (changes : List ChangeParts) (present : State) (count : ℕ) (state : State) → IsLedBack changes present count state → length changes ≤ count
    → (states : List State) × StatesBefore (reverse changes) present (Ok states)
walked_back changes present count state is past = (reverse is.states, all_back changes present count is.states is.led past)
