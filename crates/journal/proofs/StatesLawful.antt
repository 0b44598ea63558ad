-- The states that changes lead to are lawful.
use Rattle.std.proofs.Common.{◌≡◌, ℕ, ◌+◌, List, [], ◌∷◌, ◌++◌, length, Result, Ok, Err, sym, subst, inl, inr}
use Rattle.std.specs.List.{AllByRecursion}
use Rattle.changes.specs.Changes.{ChangeParts}
use Rattle.states.specs.State.{IsState}
use Rattle.states.specs.declared.refusal.Refusal.TheVariants.{JournalBroken}
use Rattle.journal.specs.Values.{State, Refusal}
use Rattle.journal.specs.Opens.{IsAnswer, GoesOn, StatesBefore, StatesBehind}
use Rattle.journal.proofs.StepsJoined.{all-append}

behind_by : (number : ℕ) (changes : List ChangeParts) (states : List State) (next : State) (part : Result (List State) Refusal) → IsState next
    → ((xs : List State) → StatesBehind number changes next (Ok xs) → AllByRecursion IsState xs) → StatesBehind number changes next part → GoesOn (λ xs. IsAnswer (next ∷ xs)) part (Ok states)
    → AllByRecursion IsState states
behind_by number changes states next (Ok xs) lawful others h go_on =
    let same : states ≡ next ∷ xs = cc in
    subst (AllByRecursion IsState) (sym same) (lawful, others xs h)
behind_by number changes states next (Err e) lawful others h go_on = absurd cc

-- the states that changes lead on to
lawful-behind : (number : ℕ) (changes : List ChangeParts) (state : State) (states : List State) → StatesBehind number changes state (Ok states) → AllByRecursion IsState states
lawful-behind number [] state states h = let none : states ≡ [] = cc in subst (AllByRecursion IsState) (sym none) tt
lawful-behind number (change ∷ changes) state states (inl h) = behind_by (number + 1) changes states h.0 h.2.0 h.1.1 (lawful-behind (number + 1) changes h.0) h.2.1 h.2.2
lawful-behind number (change ∷ changes) state states (inr h) = absurd (let is : Ok states ≡ Err (JournalBroken number) = h.1 in cc)

before_by : (changes : List ChangeParts) (states : List State) (before : State) (part : Result (List State) Refusal) → IsState before
    → ((xs : List State) → StatesBefore changes before (Ok xs) → AllByRecursion IsState xs) → StatesBefore changes before part → GoesOn (λ xs. IsAnswer (xs ++ before ∷ [])) part (Ok states)
    → AllByRecursion IsState states
before_by changes states before (Ok xs) lawful others h go_on =
    let same : states ≡ xs ++ before ∷ [] = cc in
    subst (AllByRecursion IsState) (sym same) (all-append IsState xs (before ∷ []) (others xs h) (lawful, tt))
before_by changes states before (Err e) lawful others h go_on = absurd cc

-- the states that changes lead back to
lawful-before : (changes : List ChangeParts) (state : State) (states : List State) → StatesBefore changes state (Ok states) → AllByRecursion IsState states
lawful-before [] state states h = let none : states ≡ [] = cc in subst (AllByRecursion IsState) (sym none) tt
lawful-before (change ∷ changes) state states (inl h) = before_by changes states h.0 h.2.0 h.1.1 (lawful-before changes h.0) h.2.1 h.2.2
lawful-before (change ∷ changes) state states (inr h) = absurd (let is : Ok states ≡ Err (JournalBroken (length changes + 2)) = h.1 in cc)

-- the states of a history that was opened
pub lawful-joined : (number : ℕ) (earlier later : List ChangeParts) (state : State) (before behind : List State) → IsState state → StatesBefore earlier state (Ok before)
    → StatesBehind number later state (Ok behind) → AllByRecursion IsState (before ++ state ∷ behind)
lawful-joined number earlier later state before behind is back on =
    all-append IsState before (state ∷ behind) (lawful-before earlier state before back) (is, lawful-behind number later state behind on)
