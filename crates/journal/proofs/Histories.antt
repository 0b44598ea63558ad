-- Histories with the change of each step.
use Rattle.std.proofs.Common.{◌≡◌, ℕ, suc, zero, ◌+◌, ◌-◌, ◌<◌, ◌≤◌, List, [], ◌∷◌, ◌++◌, length, take, Option, Some, None, refl, sym, ap, ◌∙◌, subst, add-one, arith}
use Rattle.std.specs.Prelude.{IsSomeAnd, slice_get}
use Rattle.std.proofs.lemmas.Option.{slice_get_within}
use Rattle.changes.specs.Changes.{ChangeParts}
use Rattle.journal.specs.Values.{State}
use Rattle.journal.specs.Past.{Past, present, pushed}
use Rattle.journal.specs.Changes.{AreSteps, IsChange, IsStepOf, with_change}

-- there is one state more than changes
pub AreSteps-count : (states : List State) (changes : List ChangeParts) → AreSteps states changes → length states ≡ length changes + 1
AreSteps-count [] changes h = absurd h
AreSteps-count (s ∷ []) [] h = omega arith
AreSteps-count (s ∷ []) (c ∷ cs) h = absurd h
AreSteps-count (s ∷ t ∷ states) [] h = absurd h
AreSteps-count (s ∷ t ∷ states) (c ∷ cs) h =
    let rest : length (t ∷ states) ≡ length cs + 1 = AreSteps-count (t ∷ states) cs h.1 in
    omega arith

-- what follows a state is cut, and a new one put there
pub AreSteps-push : (states : List State) (changes : List ChangeParts) (n : ℕ) (old new : State) (change : ChangeParts) → AreSteps states changes
    → slice_get states n ≡ Some old → IsChange old change new → AreSteps (take (suc n) states ++ new ∷ []) (take n changes ++ change ∷ [])
AreSteps-push [] changes n old new change h at leads = absurd h
AreSteps-push (s ∷ states) changes zero old new change h at leads =
    let same : s ≡ old = cc in
    (rw same leads, tt)
AreSteps-push (s ∷ []) changes (suc n) old new change h at leads = absurd cc
AreSteps-push (s ∷ t ∷ states) [] (suc n) old new change h at leads = absurd h
AreSteps-push (s ∷ t ∷ states) (c ∷ cs) (suc n) old new change h at leads = (h.0, AreSteps-push (t ∷ states) cs n old new change h.1 at leads)

-- a change leads from the state in its place to the next
pub AreSteps-at : (states : List State) (changes : List ChangeParts) (n : ℕ) (change : ChangeParts) → AreSteps states changes → slice_get changes n ≡ Some change
    → (old new : State) × (slice_get states n ≡ Some old) × (slice_get states (suc n) ≡ Some new) × IsChange old change new
AreSteps-at [] changes n change h at = absurd h
AreSteps-at (s ∷ []) [] n change h at = absurd cc
AreSteps-at (s ∷ []) (c ∷ cs) n change h at = absurd h
AreSteps-at (s ∷ t ∷ states) [] n change h at = absurd h
AreSteps-at (s ∷ t ∷ states) (c ∷ cs) zero change h at =
    let same : c ≡ change = cc in
    (s, t, refl, refl, rw (← same) h.0)
AreSteps-at (s ∷ t ∷ states) (c ∷ cs) (suc n) change h at = AreSteps-at (t ∷ states) cs n change h.1 at

pushed_by : (found : Option State) (states : List State) (changes : List ChangeParts) (n : ℕ) (new : State) (change : ChangeParts) → slice_get states n ≡ found → AreSteps states changes
    → IsSomeAnd found (λ old. IsChange old change new) → AreSteps (take (suc n) states ++ new ∷ []) (take n changes ++ change ∷ [])
pushed_by None states changes n new change at h leads = absurd leads
pushed_by (Some old) states changes n new change at h leads = AreSteps-push states changes n old new change h at leads

-- the same, where the change leads from the state that is found there
pub AreSteps-pushed : (states : List State) (changes : List ChangeParts) (n : ℕ) (new : State) (change : ChangeParts) → AreSteps states changes
    → IsSomeAnd (slice_get states n) (λ old. IsChange old change new) → AreSteps (take (n + 1) states ++ new ∷ []) (take n changes ++ change ∷ [])
AreSteps-pushed states changes n new change h leads = rw add-one (pushed_by (slice_get states n) states changes n new change refl h leads)

step_by : (past : Past) (changes : List ChangeParts) (n : ℕ) (change : ChangeParts) → AreSteps past.states changes → slice_get changes n ≡ Some change → IsStepOf past (suc n) change
step_by past changes n change h at =
    let found = AreSteps-at past.states changes n change h at in
    let here : suc n - 1 ≡ n = omega arith in
    record { old = found.0; new = found.1; old_is = rw here found.2; new_is = found.3; leads = found.4 }

-- the change in a place is a step
pub step_of : (past : Past) (changes : List ChangeParts) (k : ℕ) (change : ChangeParts) → 0 < k → AreSteps past.states changes → slice_get changes (k - 1) ≡ Some change → IsStepOf past k change
step_of past changes k change some h at =
    let here : suc (k - 1) ≡ k = omega arith in
    subst (λ n. IsStepOf past n change) here (step_by past changes (k - 1) change h at)

-- ---- a new state

-- an item of the front that is kept
front-get : {X : Type 0} (xs ys : List X) (k : ℕ) (x : X) → slice_get xs k ≡ Some x → slice_get (take (suc k) xs ++ ys) k ≡ Some x
front-get [] ys k x at = absurd cc
front-get (y ∷ xs) ys zero x at = at
front-get (y ∷ xs) ys (suc k) x at = front-get xs ys k x at

-- the item behind it
pub last-get : {X : Type 0} (xs : List X) (k : ℕ) (x : X) → k < length xs → slice_get (take (suc k) xs ++ x ∷ []) (suc k) ≡ Some x
last-get [] k x within = absurd (omega arith)
last-get (y ∷ xs) zero x within = refl
last-get (y ∷ xs) (suc k) x within = last-get xs k x (omega arith)

pushed_step_by : (found : Option State) (past : Past) (change : ChangeParts) (new : State) → present past ≡ found → IsSomeAnd found (λ old. IsChange old change new)
    → IsStepOf (pushed past new) (past.cursor + 1) change
pushed_step_by None past change new at leads = absurd leads
pushed_step_by (Some old) past change new at leads =
    let states = past.states in
    let k = past.cursor in
    let here : (k + 1) - 1 ≡ k = omega arith in
    record {
      old = old;
      new = new;
      old_is = rw (here, add-one) (front-get states (new ∷ []) k old at);
      new_is = rw add-one (last-get states k new (slice_get_within states k old at));
      leads = leads;
    }

-- the change that leads to a new state is the step to it
pub pushed_step : (past : Past) (change : ChangeParts) (new : State) → IsSomeAnd (present past) (λ old. IsChange old change new)
    → IsStepOf (pushed past new) (past.cursor + 1) change
pushed_step past change new leads = pushed_step_by (present past) past change new refl leads

-- what an edit does to the past and to the changes
pub edit-changes : (old new : Past) (changes more : List ChangeParts) (state edited : State) (change : ChangeParts) (k : ℕ) → present old ≡ Some state → IsChange state change edited
    → new ≡ pushed old edited → more ≡ with_change old.cursor changes change → k ≡ new.cursor → length change.splices ≤ 1
    → (x : ChangeParts) × IsStepOf new k x × (length x.splices ≤ 1) × (more ≡ with_change old.cursor changes x)
edit-changes old new changes more state edited change k at leads past all cursor one =
    let step : IsStepOf (pushed old edited) (old.cursor + 1) change = pushed_step old change edited (rw at leads) in
    let here : old.cursor + 1 ≡ k = ap (λ (p : Past). p.cursor) (sym past) ∙ sym cursor in
    (change, subst (λ (n : ℕ). IsStepOf new n change) here (subst (λ (p : Past). IsStepOf p (old.cursor + 1) change) (sym past) step), one, all)
