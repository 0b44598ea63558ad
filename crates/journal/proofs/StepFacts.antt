-- Reading the steps of a journal line by line.
use Rattle.std.proofs.Common.{◌≡◌, ◌⊎◌, ◌==◌, true, false, length, ℕ, suc, zero, ◌+◌, ◌-◌, ◌<◌, ◌≤◌, List, [], ◌∷◌, ◌++◌, Result, Ok, Err, refl, sym, ap, subst, append_assoc, inl, inr, arith, true≢false}
use Rattle.std.proofs.lemmas.Bool.Decides.{nat_tests}
use Rattle.std.proofs.lemmas.List.{append-nil}
use Rattle.changes.specs.Changes.{ChangeParts}
use Rattle.states.specs.declared.refusal.Refusal.TheVariants.{JournalBroken}
use Rattle.journal.specs.Values.{Refusal, OutOfMemory}
use Rattle.journal_format.specs.declared.header.Header.{Header}
use Rattle.journal.specs.Opens.{IsAnswer, GoesOn, StepAt, StepLines}

-- what was read before, and what the rest answers
abbrev pub before : {X : Type 0} → List X → Result (List X) Refusal → Result (List X) Refusal
before done (Ok xs) = Ok (done ++ xs)
before done (Err refusal) = Err refusal

pub before-more : {X : Type 0} (done : List X) (x : X) (rest : Result (List X) Refusal) → before done (before (x ∷ []) rest) ≡ before (done ++ x ∷ []) rest
before-more done x (Ok xs) = ap Ok (sym (append_assoc done (x ∷ []) xs))
before-more done x (Err refusal) = refl

-- the test whether nothing is left
zero_by : (n : ℕ) → (n == 0) ≡ true → n ≡ 0
zero_by n h = grind (arith, nat_tests)

pub empty_by : (rest : List ℕ) → (length rest == 0) ≡ true → rest ≡ []
empty_by [] h = refl
empty_by (b ∷ rest) h = let none : length (b ∷ rest) ≡ 0 = zero_by (length (b ∷ rest)) h in absurd (omega (arith, none))

pub filled_by : (rest : List ℕ) → (length rest == 0) ≡ false → rest ≡ [] → ⊥
filled_by rest h is = true≢false (subst (λ (bs : List ℕ). (length bs == 0) ≡ false) is h)

a_step : (header : Header) (steps number : ℕ) (bytes : List ℕ) (step : ChangeParts × List ℕ) (rest : Result (List ChangeParts) Refusal) → StepAt header bytes step
    → StepLines header steps (number + 1) step.1 rest → StepLines header (suc steps) number bytes (before (step.0 ∷ []) rest)
a_step header steps number bytes step (Ok xs) at h = inl (step, at, (Ok xs, h, refl))
a_step header steps number bytes step (Err refusal) at h = inl (step, at, (Err refusal, h, refl))

-- the lines before a place are these changes: what the others answer goes behind them
abbrev pub ReadSoFar : Header → ℕ → List ℕ → ℕ → List ℕ → List ChangeParts → Type 0
ReadSoFar header steps bytes place rest done = (answer : Result (List ChangeParts) Refusal) → StepLines header (steps - place) (place + 2) rest answer → StepLines header steps 2 bytes (before done answer)

pub nothing_read : (header : Header) (steps : ℕ) (bytes : List ℕ) → ReadSoFar header steps bytes 0 bytes []
nothing_read header steps bytes (Ok xs) h =
    let whole : StepLines header steps 2 bytes (Ok xs) = subst (λ n. StepLines header n 2 bytes (Ok xs)) (let e : steps - 0 ≡ steps = omega arith in e) h in
    whole
nothing_read header steps bytes (Err refusal) h =
    let whole : StepLines header steps 2 bytes (Err refusal) = subst (λ n. StepLines header n 2 bytes (Err refusal)) (let e : steps - 0 ≡ steps = omega arith in e) h in
    whole

module _ (header : Header) (steps : ℕ) (bytes : List ℕ) (place : ℕ) (rest : List ℕ) (done : List ChangeParts) (so_far : ReadSoFar header steps bytes place rest done) where
  -- a line more is a step
  pub one_more : (step : ChangeParts × List ℕ) → place < steps → StepAt header rest step → ReadSoFar header steps bytes (place + 1) step.1 (done ++ step.0 ∷ [])
  one_more step below at answer h =
      let count : suc (steps - (place + 1)) ≡ steps - place = omega arith in
      let number : (place + 1) + 2 ≡ (place + 2) + 1 = omega arith in
      let tail : StepLines header (steps - (place + 1)) ((place + 2) + 1) step.1 answer = subst (λ n. StepLines header (steps - (place + 1)) n step.1 answer) number h in
      let whole : StepLines header (steps - place) (place + 2) rest (before (step.0 ∷ []) answer) = subst (λ n. StepLines header n (place + 2) rest (before (step.0 ∷ []) answer)) count (a_step header (steps - (place + 1)) (place + 2) rest step answer at tail) in
      subst (λ a. StepLines header steps 2 bytes a) (before-more done step.0 answer) (so_far (before (step.0 ∷ []) answer) whole)

  -- the next line is none
  pub no_step : place < steps → ((step : ChangeParts × List ℕ) → StepAt header rest step → ⊥) → StepLines header steps 2 bytes (Err (JournalBroken (place + 2)))
  no_step below none =
      let count : suc (steps - (place + 1)) ≡ steps - place = omega arith in
      so_far (Err (JournalBroken (place + 2))) (subst (λ n. StepLines header n (place + 2) rest (Err (JournalBroken (place + 2)))) count (inr (none, refl)))

  -- all steps are read, and nothing stands behind them
  pub all_read : steps ≤ place → place ≤ steps → rest ≡ [] → StepLines header steps 2 bytes (Ok done)
  all_read past within empty =
      let count : 0 ≡ steps - place = omega arith in
      let whole : StepLines header steps 2 bytes (before done (Ok [])) = so_far (Ok []) (subst (λ n. StepLines header n (place + 2) rest (Ok [])) count (inl (empty, refl))) in
      subst (λ xs. StepLines header steps 2 bytes (Ok xs)) (append-nil done) whole

  -- all steps are read, and something stands behind them
  pub more_behind : steps ≤ place → place ≤ steps → (rest ≡ [] → ⊥) → StepLines header steps 2 bytes (Err (JournalBroken (steps + 2)))
  more_behind past within filled =
      let count : 0 ≡ steps - place = omega arith in
      let same : place + 2 ≡ steps + 2 = omega arith in
      subst (λ n. StepLines header steps 2 bytes (Err (JournalBroken n))) same
      (so_far (Err (JournalBroken (place + 2))) (subst (λ n. StepLines header n (place + 2) rest (Err (JournalBroken (place + 2)))) count (inr (filled, refl))))

  -- the next line can't be read as a step, or memory is refused
  pub refused : (e : Refusal) → place < steps → (e ≡ OutOfMemory) ⊎ ((e ≡ JournalBroken (place + 2)) × ((step : ChangeParts × List ℕ) → StepAt header rest step → ⊥))
      → (e ≡ OutOfMemory) ⊎ StepLines header steps 2 bytes (Err e)
  refused e below (inl memory) = inl memory
  refused e below (inr broken) = inr (subst (λ r. StepLines header steps 2 bytes (Err r)) (sym broken.0) (no_step below broken.1))

count_by : (steps : ℕ) (change : ChangeParts) (changes : List ChangeParts) (part : Result (List ChangeParts) Refusal) → ((xs : List ChangeParts) → part ≡ Ok xs → length xs ≡ steps)
    → GoesOn (λ xs. IsAnswer (change ∷ xs)) part (Ok changes) → length changes ≡ suc steps
count_by steps change changes (Ok xs) counted go_on =
    let same : changes ≡ change ∷ xs = cc in
    rw same (ap suc (counted xs refl))
count_by steps change changes (Err e) counted go_on = absurd cc

-- as many steps are read as are asked for
pub steps-count : (header : Header) (steps number : ℕ) (bytes : List ℕ) (changes : List ChangeParts) → StepLines header steps number bytes (Ok changes) → length changes ≡ steps
steps-count header zero number bytes changes (inl h) = let none : changes ≡ [] = let is : Ok changes ≡ Ok [] = h.1 in cc in rw none refl
steps-count header zero number bytes changes (inr h) = absurd (let is : Ok changes ≡ Err (JournalBroken number) = h.1 in cc)
steps-count header (suc steps) number bytes changes (inl h) =
    count_by steps h.0.0 changes h.2.0 (λ xs is. steps-count header steps (number + 1) h.0.1 xs (subst (StepLines header steps (number + 1) h.0.1) is h.2.1)) h.2.2
steps-count header (suc steps) number bytes changes (inr h) = absurd (let is : Ok changes ≡ Err (JournalBroken number) = h.1 in cc)
