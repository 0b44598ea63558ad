-- The changes of a history lead to its states again, in both directions.
use Rattle.std.proofs.Common.{◌≡◌, ℕ, zero, suc, ◌+◌, ◌<◌, List, [], ◌∷◌, ◌++◌, drop, get_or, length, reverse, take, Some, Ok, refl, sym, ap, subst, ◌∙◌, inl, arith, add-one}
use Rattle.std.specs.Prelude.{slice_get}
use Rattle.std.specs.List.{AllByRecursion}
use Rattle.std.proofs.lemmas.List.{drop_more, reverse-append, take-append-drop, take_more}
use Rattle.std.proofs.lemmas.Option.{get_or_from_slice_get, slice_get_within}
use Rattle.changes.specs.Changes.{After, ChangeParts, Leads, inverse}
use Rattle.states.specs.State.{IsState}
use Rattle.changes.proofs.ChangeFacts.{After-inverse}
use Rattle.journal.specs.Values.{State}
use Rattle.journal.specs.Past.{Past, present}
use Rattle.journal.specs.Changes.{AreSteps}
use Rattle.journal.specs.Opens.{PastOf, StatesBefore, StatesBehind}
use Rattle.journal.proofs.Histories.{AreSteps-at, AreSteps-count}

-- a state of a history
pub state-at : (states : List State) (n : ℕ) (state : State) → AllByRecursion IsState states → slice_get states n ≡ Some state → IsState state
state-at [] n state h at = absurd cc
state-at (s ∷ states) zero state h at = let same : s ≡ state = cc in subst IsState same h.0
state-at (s ∷ states) (suc n) state h at = state-at states n state h.1 at

-- there is a change before each state but the first
change-at : (changes : List ChangeParts) (n : ℕ) → n < length changes → (change : ChangeParts) × (slice_get changes n ≡ Some change)
change-at [] n within = absurd (omega (arith, within))
change-at (c ∷ cs) zero within = (c, refl)
change-at (c ∷ cs) (suc n) within = change-at cs n (omega (arith, within))

-- the first items, and one more
more : {X : Type 0} (xs : List X) (n : ℕ) (x : X) → slice_get xs n ≡ Some x → take (suc n) xs ≡ take n xs ++ x ∷ []
more xs n x at =
    let within : n < length xs = slice_get_within xs n x at in
    let is : get_or xs n x ≡ x = get_or_from_slice_get xs n x x at in
    ap (λ k. take k xs) (sym (add-one n)) ∙ take_more xs n x within ∙ ap (λ y. take n xs ++ y ∷ []) is

-- the last items, and one before them
onward : {X : Type 0} (xs : List X) (n : ℕ) (x : X) → slice_get xs n ≡ Some x → drop n xs ≡ x ∷ drop (n + 1) xs
onward xs n x at =
    let within : n < length xs = slice_get_within xs n x at in
    let is : get_or xs n x ≡ x = get_or_from_slice_get xs n x x at in
    drop_more xs n x within ∙ ap (λ y. y ∷ drop (n + 1) xs) is

module _ (states : List State) (changes : List ChangeParts) (steps : AreSteps states changes) (lawful : AllByRecursion IsState states) where
  -- the changes up to a state lead back to those before it
  before-again : (n : ℕ) (state : State) → slice_get states n ≡ Some state → StatesBefore (reverse (take n changes)) state (Ok (take n states))
  before-again zero state at = refl
  before-again (suc n) state at =
      let within = slice_get_within states (suc n) state at in
      let count = AreSteps-count states changes steps in
      let last = change-at changes n (omega (arith, within, count)) in
      let change = last.0 in
      let found = AreSteps-at states changes n change steps last.1 in
      let old = found.0 in
      let new_is : found.1 ≡ state = let same : Some found.1 ≡ Some state = sym found.3 ∙ at in cc in
      let leads : Leads state (inverse change) old = (subst (λ s. After s (inverse change) old) new_is (After-inverse change old found.1 found.4.leads), state-at states n old lawful found.2) in
      let earlier = before-again n old found.2 in
      let whole : StatesBefore (change ∷ reverse (take n changes)) state (Ok (take n states ++ old ∷ [])) = inl (old, leads, (Ok (take n states), earlier, refl)) in
      let order : reverse (take (suc n) changes) ≡ change ∷ reverse (take n changes) = ap reverse (more changes n change last.1) ∙ reverse-append (take n changes) (change ∷ []) in
      subst (λ cs. StatesBefore cs state (Ok (take (suc n) states))) (sym order)
      (subst (λ ss. StatesBefore (change ∷ reverse (take n changes)) state (Ok ss)) (sym (more states n old found.2)) whole)

-- changes lead on to the states behind the first
behind-again : (number : ℕ) (state : State) (states : List State) (changes : List ChangeParts) → AreSteps (state ∷ states) changes → AllByRecursion IsState states → StatesBehind number changes state (Ok states)
behind-again number state [] [] steps lawful = refl
behind-again number state [] (c ∷ cs) steps lawful = absurd steps
behind-again number state (next ∷ states) [] steps lawful = absurd steps
behind-again number state (next ∷ states) (c ∷ cs) steps lawful =
    inl (next, (steps.0.leads, lawful.0), (Ok states, behind-again (number + 1) next states cs steps.1 lawful.1, refl))

-- the steps from a state on
steps-on : (states : List State) (changes : List ChangeParts) (n : ℕ) → n < length states → AreSteps states changes → AreSteps (drop n states) (drop n changes)
steps-on [] changes n within steps = absurd steps
steps-on (s ∷ states) changes zero within steps = steps
steps-on (s ∷ []) [] (suc n) within steps = absurd (omega (arith, within))
steps-on (s ∷ []) (c ∷ cs) (suc n) within steps = absurd steps
steps-on (s ∷ t ∷ states) [] (suc n) within steps = absurd steps
steps-on (s ∷ t ∷ states) (c ∷ cs) (suc n) within steps = steps-on (t ∷ states) cs n (omega (arith, within)) steps.1

lawful-on : (states : List State) (n : ℕ) → AllByRecursion IsState states → AllByRecursion IsState (drop n states)
lawful-on [] zero lawful = tt
lawful-on [] (suc n) lawful = tt
lawful-on (s ∷ states) zero lawful = lawful
lawful-on (s ∷ states) (suc n) lawful = lawful-on states n lawful.1

-- the changes of a history lead from its present state to the history
pub past-again : (past : Past) (changes : List ChangeParts) (state : State) → AreSteps past.states changes → AllByRecursion IsState past.states → present past ≡ Some state
    → PastOf past.cursor changes state (Ok past)
past-again past changes state steps lawful at =
    let n = past.cursor in
    let states = past.states in
    let within : n < length states = slice_get_within states n state at in
    let split : drop n states ≡ state ∷ drop (n + 1) states = onward states n state at in
    let on : AreSteps (state ∷ drop (n + 1) states) (drop n changes) = subst (λ ss. AreSteps ss (drop n changes)) split (steps-on states changes n within steps) in
    let behind = behind-again (n + 2) state (drop (n + 1) states) (drop n changes) on (lawful-on states (n + 1) lawful) in
    let whole : states ≡ take n states ++ state ∷ drop (n + 1) states = sym (take-append-drop n states) ∙ ap (λ ss. take n states ++ ss) split in
    let same : Ok past ≡ Ok (record { states = take n states ++ state ∷ drop (n + 1) states; cursor = n }) = λ i. Ok (record { states = whole i; cursor = n }) in
    (Ok (take n states), before-again states changes steps lawful n state at, (Ok (drop (n + 1) states), behind, same))
