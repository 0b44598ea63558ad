-- A history without its first states and steps.
use Rattle.std.proofs.Common.{◌≡◌, ℕ, suc, zero, ◌+◌, ◌-◌, ◌≤◌, List, [], ◌∷◌, length, drop, Some, sym, subst, arith}
use Rattle.std.specs.Prelude.{slice_get}
use Rattle.changes.specs.Changes.{ChangeParts}
use Rattle.states.specs.State.{IsState}
use Rattle.journal.specs.Values.{State}
use Rattle.journal.specs.Changes.{AreSteps}
use Rattle.journal.specs.Tied.Neighbours.{IsHistory, states_of}
use Rattle.journal.proofs.Neighbours.{IsFound, found, present-is}
use Rattle.journal.proofs.StepsJoined.{all-drop}

get-without : {X : Type 0} (n : ℕ) (xs : List X) (k m : ℕ) (x : X) → m ≡ n + k → slice_get xs m ≡ Some x → slice_get (drop n xs) k ≡ Some x
get-without zero xs k m x sum at = let same : m ≡ k = omega arith in subst (λ (j : ℕ). slice_get xs j ≡ Some x) same at
get-without (suc n) [] k m x sum at = absurd cc
get-without (suc n) (y ∷ xs) k zero x sum at = absurd (omega arith)
get-without (suc n) (y ∷ xs) k (suc m) x sum at = get-without n xs k m x (omega arith) at

steps-without : (n : ℕ) (states : List State) (changes : List ChangeParts) → n ≤ length changes → AreSteps states changes → AreSteps (drop n states) (drop n changes)
steps-without zero states changes within steps = steps
steps-without (suc n) [] changes within steps = absurd steps
steps-without (suc n) (s ∷ []) [] within steps = absurd (omega arith)
steps-without (suc n) (s ∷ []) (c ∷ cs) within steps = absurd steps
steps-without (suc n) (s ∷ t ∷ states) [] within steps = absurd steps
steps-without (suc n) (s ∷ t ∷ states) (c ∷ cs) within steps = steps-without n (t ∷ states) cs (omega arith) steps.1

-- the present state is the same one, so many places less from the start
pub without-first : (state : State) (changes : List ChangeParts) (k n : ℕ) (left : List ChangeParts) (place : ℕ) → IsHistory state changes k → n ≤ k → left ≡ drop n changes → place ≡ k - n
    → IsFound (drop n (states_of state changes k)) left place state
without-first state changes k n left place is within left_is place_is =
    let states = states_of state changes k in
    let below = is.within in
    let all : n ≤ length changes = omega arith in
    let sum : k ≡ n + (k - n) = omega arith in
    subst (λ (cs : List ChangeParts). IsFound (drop n states) cs place state) (sym left_is)
    (subst (λ (m : ℕ). IsFound (drop n states) (drop n changes) m state) (sym place_is)
    (found (drop n states) (drop n changes) (k - n) state (steps-without n states changes all is.steps) (all-drop IsState n states is.lawful) (get-without n states (k - n) k state sum (present-is state changes k below))))
