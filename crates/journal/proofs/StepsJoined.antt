-- The states that minimal changes lead to, joined, are a history with these changes.
use Rattle.std.proofs.Common.{◌≡◌, ℕ, zero, suc, ◌+◌, List, [], ◌∷◌, ◌++◌, length, drop, take, Result, Ok, Err, sym, ap, subst, ◌∙◌, append_assoc, inl, inr}
use Rattle.std.specs.Prelude.{reverse}
use Rattle.std.specs.List.{AllByRecursion}
use Rattle.std.proofs.lemmas.List.{reverse-append, reverse-reverse, take-append-drop}
use Rattle.changes.specs.Changes.{After, ChangeParts, IsMinimal, inverse}
use Rattle.states.specs.declared.refusal.Refusal.TheVariants.{JournalBroken}
use Rattle.changes.proofs.ChangeFacts.{After-inverse, inverse-inverse}
use Rattle.journal.specs.Values.{State, Refusal}
use Rattle.journal.specs.Changes.{AreSteps, IsChange}
use Rattle.journal.specs.Opens.{IsAnswer, GoesOn, StatesBefore, StatesBehind}

pub all-append : {X : Type 0} (P : X → Type 0) (xs ys : List X) → AllByRecursion P xs → AllByRecursion P ys → AllByRecursion P (xs ++ ys)
all-append P [] ys h g = g
all-append P (x ∷ xs) ys h g = (h.0, all-append P xs ys h.1 g)

reverse-cons : {X : Type 0} (x : X) (xs : List X) → reverse (x ∷ xs) ≡ reverse xs ++ x ∷ []
reverse-cons x xs = reverse-append (x ∷ []) xs

all-reverse : {X : Type 0} (P : X → Type 0) (xs : List X) → AllByRecursion P xs → AllByRecursion P (reverse xs)
all-reverse P [] h = tt
all-reverse P (x ∷ xs) h = subst (AllByRecursion P) (sym (reverse-cons x xs)) (all-append P (reverse xs) (x ∷ []) (all-reverse P xs h.1) (h.0, tt))

pub all-take : {X : Type 0} (P : X → Type 0) (n : ℕ) (xs : List X) → AllByRecursion P xs → AllByRecursion P (take n xs)
all-take P zero xs h = tt
all-take P (suc n) [] h = tt
all-take P (suc n) (x ∷ xs) h = (h.0, all-take P n xs h.1)

pub all-drop : {X : Type 0} (P : X → Type 0) (n : ℕ) (xs : List X) → AllByRecursion P xs → AllByRecursion P (drop n xs)
all-drop P zero xs h = h
all-drop P (suc n) [] h = tt
all-drop P (suc n) (x ∷ xs) h = all-drop P n xs h.1

-- a change that leads back by its inverse leads on
leads-on : (change : ChangeParts) (state before : State) → IsMinimal change → After state (inverse change) before → IsChange before change state
leads-on change state before minimal leads = record {
  minimal = minimal;
  leads = subst (λ c. After before c state) (inverse-inverse change minimal) (After-inverse (inverse change) state before leads);
}

behind_by : (number : ℕ) (changes : List ChangeParts) (state : State) (states : List State) (change : ChangeParts) (next : State) (part : Result (List State) Refusal) → IsChange state change next
    → ((xs : List State) → StatesBehind number changes next (Ok xs) → AreSteps (next ∷ xs) changes) → StatesBehind number changes next part → GoesOn (λ xs. IsAnswer (next ∷ xs)) part (Ok states)
    → AreSteps (state ∷ states) (change ∷ changes)
behind_by number changes state states change next (Ok xs) step joined h go_on =
    let same : states ≡ next ∷ xs = cc in
    subst (λ ss. AreSteps (state ∷ ss) (change ∷ changes)) (sym same) (step, joined xs h)
behind_by number changes state states change next (Err e) step joined h go_on = absurd cc

-- the states that changes lead on to follow the state
steps-behind : (number : ℕ) (changes : List ChangeParts) (state : State) (states : List State) → AllByRecursion IsMinimal changes → StatesBehind number changes state (Ok states) → AreSteps (state ∷ states) changes
steps-behind number [] state states minimal h =
    let none : states ≡ [] = cc in
    subst (λ ss. AreSteps (state ∷ ss) []) (sym none) tt
steps-behind number (change ∷ changes) state states minimal (inl h) =
    behind_by (number + 1) changes state states change h.0 h.2.0 (record { minimal = minimal.0; leads = h.1.0 }) (λ xs. steps-behind (number + 1) changes h.0 xs minimal.1) h.2.1 h.2.2
steps-behind number (change ∷ changes) state states minimal (inr h) = absurd (let is : Ok states ≡ Err (JournalBroken number) = h.1 in cc)

before_by : (changes : List ChangeParts) (state : State) (states : List State) (change : ChangeParts) (before : State) (tail : List State) (later : List ChangeParts) (part : Result (List State) Refusal)
    → ((xs : List State) → StatesBefore changes before (Ok xs) → AreSteps (xs ++ before ∷ state ∷ tail) (reverse changes ++ change ∷ later)) → StatesBefore changes before part
    → GoesOn (λ xs. IsAnswer (xs ++ before ∷ [])) part (Ok states) → AreSteps (states ++ state ∷ tail) (reverse (change ∷ changes) ++ later)
before_by changes state states change before tail later (Ok xs) joined h go_on =
    let same : states ≡ xs ++ before ∷ [] = cc in
    let whole : states ++ state ∷ tail ≡ xs ++ before ∷ state ∷ tail = ap (λ ss. ss ++ state ∷ tail) same ∙ append_assoc xs (before ∷ []) (state ∷ tail) in
    let order : reverse (change ∷ changes) ++ later ≡ reverse changes ++ change ∷ later = ap (λ cs. cs ++ later) (reverse-cons change changes) ∙ append_assoc (reverse changes) (change ∷ []) later in
    subst (λ ss. AreSteps ss (reverse (change ∷ changes) ++ later)) (sym whole) (subst (λ cs. AreSteps (xs ++ before ∷ state ∷ tail) cs) (sym order) (joined xs h))
before_by changes state states change before tail later (Err e) joined h go_on = absurd cc

-- the states that changes lead back to go before the state, and what follows it
steps-before : (changes : List ChangeParts) (state : State) (states tail : List State) (later : List ChangeParts) → AllByRecursion IsMinimal changes → StatesBefore changes state (Ok states)
    → AreSteps (state ∷ tail) later → AreSteps (states ++ state ∷ tail) (reverse changes ++ later)
steps-before [] state states tail later minimal h steps =
    let none : states ≡ [] = cc in
    subst (λ ss. AreSteps (ss ++ state ∷ tail) later) (sym none) steps
steps-before (change ∷ changes) state states tail later minimal (inl h) steps =
    let step = leads-on change state h.0 minimal.0 h.1.0 in
    before_by changes state states change h.0 tail later h.2.0 (λ xs led. steps-before changes h.0 xs (state ∷ tail) (change ∷ later) minimal.1 led (step, steps)) h.2.1 h.2.2
steps-before (change ∷ changes) state states tail later minimal (inr h) steps = absurd (let is : Ok states ≡ Err (JournalBroken (length changes + 2)) = h.1 in cc)

-- states that minimal changes lead to from a state in both directions are joined by the changes
pub steps-joined : (cursor : ℕ) (changes : List ChangeParts) (state : State) (before behind : List State) → AllByRecursion IsMinimal changes → StatesBefore (reverse (take cursor changes)) state (Ok before)
    → StatesBehind (cursor + 2) (drop cursor changes) state (Ok behind) → AreSteps (before ++ state ∷ behind) changes
steps-joined cursor changes state before behind minimal back on =
    let later = steps-behind (cursor + 2) (drop cursor changes) state behind (all-drop IsMinimal cursor changes minimal) on in
    let whole = steps-before (reverse (take cursor changes)) state before behind (drop cursor changes) (all-reverse IsMinimal (take cursor changes) (all-take IsMinimal cursor changes minimal)) back later in
    let order : reverse (reverse (take cursor changes)) ++ drop cursor changes ≡ changes = ap (λ cs. cs ++ drop cursor changes) (reverse-reverse (take cursor changes)) ∙ take-append-drop cursor changes in
    subst (AreSteps (before ++ state ∷ behind)) order whole
