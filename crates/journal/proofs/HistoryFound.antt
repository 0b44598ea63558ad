-- What the changes of a journal lead to from the present state, in both directions, is its history.
use Rattle.std.proofs.Common.{◌≡◌, ℕ, zero, suc, ◌+◌, ◌≤◌, List, [], ◌∷◌, ◌++◌, drop, length, take, Some, Result, Ok, Err, refl, ap, ◌∙◌, inl, inr, arith}
use Rattle.std.specs.Prelude.{reverse, slice_get}
use Rattle.std.specs.List.{AllByRecursion}
use Rattle.std.proofs.lemmas.List.{length-append, length-reverse, length-take-le}
use Rattle.changes.specs.Changes.{ChangeParts, IsMinimal}
use Rattle.states.specs.State.{IsState}
use Rattle.states.specs.declared.refusal.Refusal.TheVariants.{JournalBroken}
use Rattle.journal.specs.Values.{State, Refusal}
use Rattle.journal.specs.Tied.Neighbours.{IsHistory, states_of}
use Rattle.journal.specs.Opens.{IsAnswer, GoesOn, PastOf, StatesBefore, StatesBehind}
use Rattle.journal.proofs.Neighbours.{IsFound, found}
use Rattle.journal.proofs.StatesLawful.{lawful-joined}
use Rattle.journal.proofs.StepsJoined.{steps-joined}

count_by : (changes : List ChangeParts) (states : List State) (before : State) (part : Result (List State) Refusal) → ((xs : List State) → StatesBefore changes before (Ok xs) → length xs ≡ length changes)
    → StatesBefore changes before part → GoesOn (λ xs. IsAnswer (xs ++ before ∷ [])) part (Ok states) → length states ≡ length changes + 1
count_by changes states before (Ok xs) others h go_on =
    let same : states ≡ xs ++ before ∷ [] = cc in
    let more = length-append xs (before ∷ []) in
    let rest = others xs h in
    ap length same ∙ omega (arith, more, rest)
count_by changes states before (Err e) others h go_on = absurd cc

-- there is a state for each change that leads back
pub count-before : (changes : List ChangeParts) (state : State) (states : List State) → StatesBefore changes state (Ok states) → length states ≡ length changes
count-before [] state states h = let none : states ≡ [] = cc in ap length none
count-before (change ∷ changes) state states (inl h) = let n = count_by changes states h.0 h.2.0 (count-before changes h.0) h.2.1 h.2.2 in omega (arith, n)
count-before (change ∷ changes) state states (inr h) = absurd (let is : Ok states ≡ Err (JournalBroken (length changes + 2)) = h.1 in cc)

-- the state behind others stands in their number's place
pub behind-others : (before : List State) (state : State) (behind : List State) (n : ℕ) → length before ≡ n → slice_get (before ++ state ∷ behind) n ≡ Some state
behind-others [] state behind zero count = refl
behind-others [] state behind (suc n) count = absurd (omega (arith, count))
behind-others (s ∷ before) state behind zero count = absurd (omega (arith, count))
behind-others (s ∷ before) state behind (suc n) count = behind-others before state behind n (omega (arith, count))

module _ (cursor : ℕ) (changes : List ChangeParts) (state : State) (within : cursor ≤ length changes) (minimal : AllByRecursion IsMinimal changes) (lawful : IsState state)
    (back : (states : List State) × StatesBefore (reverse (take cursor changes)) state (Ok states)) (on : (states : List State) × StatesBehind (cursor + 2) (drop cursor changes) state (Ok states)) where
  -- the states that are found by the changes are those that they lead to
  all-found : IsFound (back.0 ++ state ∷ on.0) changes cursor state
  all-found =
      let first = count-before (reverse (take cursor changes)) state back.0 back.1 in
      let turned = length-reverse (take cursor changes) in
      let taken = length-take-le cursor changes within in
      let count : length back.0 ≡ cursor = omega (arith, first, turned, taken) in
      found (back.0 ++ state ∷ on.0) changes cursor state (steps-joined cursor changes state back.0 on.0 minimal back.1 on.1)
      (lawful-joined (cursor + 2) (reverse (take cursor changes)) (drop cursor changes) state back.0 on.0 lawful back.1 on.1) (behind-others back.0 state on.0 cursor count)

  pub is-history : IsHistory state changes cursor
  is-history = all-found.history

  -- and they are the history that the changes lead to
  pub is-past : PastOf cursor changes state (Ok (record { states = states_of state changes cursor; cursor = cursor }))
  is-past =
      let same = all-found.same in
      (Ok back.0, back.1, (Ok on.0, on.1, λ i. Ok (record { states = same i; cursor = cursor })))
