-- The states of a history, found from the present one.
use Rattle.std.proofs.Common.{◌≡◌, ℕ, suc, zero, ◌+◌, ◌-◌, ◌<◌, ◌≤◌, List, [], ◌∷◌, ◌++◌, length, take, Some, refl, sym, ap, ◌∙◌, subst, add-one, arith}
use Rattle.std.specs.Prelude.{IsSomeAnd, slice_get}
use Rattle.std.specs.List.{AllByRecursion}
use Rattle.changes.specs.Changes.{After, ChangeParts, Leads, inverse}
use Rattle.states.specs.State.{IsState}
use Rattle.changes.specs.Tied.Carried.{carried}
use Rattle.changes.proofs.CarriedFacts.{After-carried}
use Rattle.changes.proofs.ChangeFacts.{After-inverse, IsMinimal-inverse}
use Rattle.changes.proofs.OneOutcome.{After-one}
use Rattle.journal.specs.Values.{State}
use Rattle.journal.specs.Changes.{AreSteps, IsChange}
use Rattle.journal.specs.Tied.Neighbours.{IsHistory, states_of, states_on, with_before}
use Rattle.journal.proofs.Histories.{AreSteps-at, AreSteps-count, AreSteps-pushed, last-get}
use Rattle.journal.proofs.StepsJoined.{all-append, all-take}

-- ---- places of a list

within-get : {X : Type 0} (xs : List X) (k : ℕ) (x : X) → slice_get xs k ≡ Some x → k < length xs
within-get [] k x at = absurd cc
within-get (y ∷ xs) zero x at = omega arith
within-get (y ∷ xs) (suc k) x at = let more = within-get xs k x at in omega arith

pub all-get : {X : Type 0} (P : X → Type 0) (xs : List X) (k : ℕ) (x : X) → slice_get xs k ≡ Some x → AllByRecursion P xs → P x
all-get P [] k x at all = absurd cc
all-get P (y ∷ xs) zero x at all = let same : y ≡ x = cc in subst P same all.0
all-get P (y ∷ xs) (suc k) x at all = all-get P xs k x at all.1

pub one-get : {X : Type 0} (xs : List X) (k : ℕ) (x y : X) → slice_get xs k ≡ Some x → slice_get xs k ≡ Some y → x ≡ y
one-get xs k x y at too = cc

-- ---- the states

-- states that changes lead on to are those found by them
on-are : (state : State) (states : List State) (changes : List ChangeParts) → AreSteps (state ∷ states) changes → states_on state changes ≡ states
on-are state [] [] h = refl
on-are state [] (c ∷ cs) h = absurd h
on-are state (next ∷ states) [] h = absurd h
on-are state (next ∷ states) (c ∷ cs) h =
    let same : carried state c ≡ next = sym (After-carried c state next h.0.minimal h.0.leads) in
    (λ i. same i ∷ states_on (same i) cs) ∙ ap (λ (l : List State). next ∷ l) (on-are next states cs h.1)

-- one state in its place leads to all of them
states-are : (states : List State) (changes : List ChangeParts) (k : ℕ) (state : State) → AreSteps states changes → slice_get states k ≡ Some state → states_of state changes k ≡ states
states-are [] changes k state h at = absurd h
states-are (s ∷ states) changes zero state h at =
    let same : s ≡ state = cc in
    ap (λ (l : List State). state ∷ l) (on-are state states changes (subst (λ (t : State). AreSteps (t ∷ states) changes) same h)) ∙ ap (λ (t : State). t ∷ states) (sym same)
states-are (s ∷ []) [] (suc k) state h at = absurd cc
states-are (s ∷ []) (c ∷ cs) (suc k) state h at = absurd h
states-are (s ∷ t ∷ states) [] (suc k) state h at = absurd h
states-are (s ∷ t ∷ states) (c ∷ cs) (suc k) state h at =
    let rest : states_of state cs k ≡ t ∷ states = states-are (t ∷ states) cs k state h.1 at in
    let back : carried t (inverse c) ≡ s = sym (After-carried (inverse c) t s (IsMinimal-inverse c h.0.minimal) (After-inverse c s t h.0.leads)) in
    ap (with_before c) rest ∙ ap (λ (u : State). u ∷ t ∷ states) back

get-before : (c : ChangeParts) (states : List State) (k : ℕ) → slice_get (with_before c states) (suc k) ≡ slice_get states k
get-before c [] k = refl
get-before c (s ∷ states) k = refl

-- the present state stands at the cursor
pub present-is : (state : State) (changes : List ChangeParts) (k : ℕ) → k ≤ length changes → slice_get (states_of state changes k) k ≡ Some state
present-is state changes zero within = refl
present-is state [] (suc k) within = absurd (omega arith)
present-is state (c ∷ cs) (suc k) within = get-before c (states_of state cs k) k ∙ present-is state cs k (omega arith)

-- the histories of states that are known
pub record IsFound (states : List State) (changes : List ChangeParts) (k : ℕ) (state : State) : Type 0 where
  pub history : IsHistory state changes k
  pub same : states_of state changes k ≡ states

pub found : (states : List State) (changes : List ChangeParts) (k : ℕ) (state : State) → AreSteps states changes → AllByRecursion IsState states → slice_get states k ≡ Some state
    → IsFound states changes k state
found states changes k state steps lawful at =
    let same = states-are states changes k state steps at in
    let count = AreSteps-count states changes steps in
    let below = within-get states k state at in
    record {
      history = record {
        within = omega arith;
        steps = subst (λ (l : List State). AreSteps l changes) (sym same) steps;
        lawful = subst (AllByRecursion IsState) (sym same) lawful;
      };
      same = same;
    }

-- ---- moves

module _ (state : State) (changes : List ChangeParts) (k : ℕ) (is : IsHistory state changes k) where
  -- a step on: the change leads to the state behind the present one
  pub next-state : (change : ChangeParts) → slice_get changes k ≡ Some change
      → (next : State) × Leads state change next × (slice_get (states_of state changes k) (suc k) ≡ Some next)
  next-state change at =
      let step = AreSteps-at (states_of state changes k) changes k change is.steps at in
      let here : step.0 ≡ state = one-get (states_of state changes k) k step.0 state step.2 (present-is state changes k is.within) in (
        step.1,
        (subst (λ (s : State). After s change step.1) here step.4.leads, all-get IsState (states_of state changes k) (suc k) step.1 step.3 is.lawful),
        step.3,
      )

  pub redone : (change : ChangeParts) (new : State) → slice_get changes k ≡ Some change → Leads state change new → IsFound (states_of state changes k) changes (suc k) new
  redone change new at leads =
      let next = next-state change at in
      let same : next.0 ≡ new = After-one change state next.0 new next.1.0 leads.0 in
      found (states_of state changes k) changes (suc k) new is.steps is.lawful (subst (λ (s : State). slice_get (states_of state changes k) (suc k) ≡ Some s) same next.2)

  -- the state is exchanged for one that a change leads to
  pub pushed-on : (change : ChangeParts) (new : State) → IsChange state change new → IsState new
      → IsFound (take (k + 1) (states_of state changes k) ++ new ∷ []) (take k changes ++ change ∷ []) (k + 1) new
  pushed-on change new leads lawful =
      let states = states_of state changes k in
      let count = AreSteps-count states changes is.steps in
      let within = is.within in
      let there = present-is state changes k within in
      let below : k < length states = omega arith in
      found (take (k + 1) states ++ new ∷ []) (take k changes ++ change ∷ []) (k + 1) new
      (AreSteps-pushed states changes k new change is.steps (rw there leads))
      (all-append IsState (take (k + 1) states) (new ∷ []) (all-take IsState (k + 1) states is.lawful) (lawful, tt))
      (rw add-one (last-get states k new below))

-- a step back: the inverse leads to the state before the present one
module _ (state : State) (changes : List ChangeParts) (k : ℕ) (is : IsHistory state changes (suc k)) where
  pub state-before : (change : ChangeParts) → slice_get changes k ≡ Some change
      → (before : State) × Leads state (inverse change) before × (slice_get (states_of state changes (suc k)) k ≡ Some before)
  state-before change at =
      let states = states_of state changes (suc k) in
      let step = AreSteps-at states changes k change is.steps at in
      let here : step.1 ≡ state = one-get states (suc k) step.1 state step.3 (present-is state changes (suc k) is.within) in (
        step.0,
        (subst (λ (s : State). After s (inverse change) step.0) here (After-inverse change step.0 step.1 step.4.leads), all-get IsState states k step.0 step.2 is.lawful),
        step.2,
      )

  pub undone : (change : ChangeParts) (new : State) → slice_get changes k ≡ Some change → Leads state (inverse change) new → IsFound (states_of state changes (suc k)) changes k new
  undone change new at leads =
      let before = state-before change at in
      let same : before.0 ≡ new = After-one (inverse change) state before.0 new before.1.0 leads.0 in
      found (states_of state changes (suc k)) changes k new is.steps is.lawful (subst (λ (s : State). slice_get (states_of state changes (suc k)) k ≡ Some s) same before.2)

-- ---- as the code has it

-- the history of one state
pub start-is : (state : State) (changes : List ChangeParts) → changes ≡ [] → IsState state → IsHistory state changes 0
start-is state changes none lawful = subst (λ (cs : List ChangeParts). IsHistory state cs 0) (sym none) (record { within = omega arith; steps = tt; lawful = (lawful, tt) })

-- an edit's change leads to its state
pub pushed-to : (state : State) (changes : List ChangeParts) (k : ℕ) (change : ChangeParts) (new : State) (items : List ChangeParts) (n : ℕ) → IsHistory state changes k
    → IsSomeAnd (slice_get (states_of state changes k) k) (λ s. IsChange s change new) → IsState new → items ≡ take k changes ++ change ∷ [] → n ≡ k + 1
    → IsFound (take (k + 1) (states_of state changes k) ++ new ∷ []) items n new
pushed-to state changes k change new items n is leads lawful items_are n_is =
    let led : IsChange state change new = rw (present-is state changes k is.within) at leads in
    rw (items_are, n_is) (pushed-on state changes k is change new led lawful)

module _ (state : State) (changes : List ChangeParts) (n : ℕ) (change back : ChangeParts) (is : IsHistory state changes n) (some : 0 < n) (at : slice_get changes (n - 1) ≡ Some change) (inverted : back ≡ inverse change) where
  -- the change back leads to the state before the present one
  pub step-back : (x : State) × Leads state back x
  step-back =
      let here : suc (n - 1) ≡ n = omega arith in
      let before = state-before state changes (n - 1) (subst (λ (m : ℕ). IsHistory state changes m) (sym here) is) change at in
      subst (λ (b : ChangeParts). (x : State) × Leads state b x) (sym inverted) (before.0, before.1)

  -- and to it alone
  pub moved-back : (new : State) → Leads state back new → IsFound (states_of state changes n) changes (n - 1) new
  moved-back new leads =
      let here : suc (n - 1) ≡ n = omega arith in
      let moved = undone state changes (n - 1) (subst (λ (m : ℕ). IsHistory state changes m) (sym here) is) change new at (subst (λ (b : ChangeParts). Leads state b new) inverted leads) in
      subst (λ (m : ℕ). IsFound (states_of state changes m) changes (n - 1) new) here moved

module _ (state : State) (changes : List ChangeParts) (k : ℕ) (change : ChangeParts) (is : IsHistory state changes k) (at : slice_get changes k ≡ Some change) where
  -- the change leads to the state behind the present one
  pub step-on : (x : State) × Leads state change x
  step-on =
      let next = next-state state changes k is change at in
      (next.0, next.1)

  -- and to it alone
  pub moved-on : (new : State) → Leads state change new → IsFound (states_of state changes k) changes (k + 1) new
  moved-on new leads = rw add-one (redone state changes k is change new at leads)
