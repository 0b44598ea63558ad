-- The present state that a journal's header and the files beside it stand for.
use Rattle.std.proofs.Common.{◌≡◌, ◌≢◌, ◌⊎◌, ℕ, true, suc, zero, ◌+◌, ◌<◌, ◌≤◌, List, [], ◌∷◌, ◌++◌, drop, length, get_or, map, take, Option, Some, None, Result, Ok, Err, ap, refl, sym, subst, ◌∙◌, inl, inr, arith}
use Rattle.std.proofs.lemmas.List.{append-nil, drop_all, drop_more, take_all, take_more}
use Rattle.std.specs.List.{AllByRecursion, concat}
use Rattle.lists.specs.Rising.{rises}
use Rattle.pep508.specs.Requirement.{file_of}
use Rattle.states.specs.State.{Fits, IsFirstUnfit, IsLockFor, IsState}
use Rattle.states.specs.StateParts.{digest_of}
use Rattle.states.specs.declared.refusal.Refusal.TheVariants.{FilesDisagree, JournalBroken}
use Rattle.states.specs.declared.refusal.SavedFile.TheVariants.{Lock, Requirements}
use Rattle.journal.specs.Values.{State, Target, Refusal, OutOfMemory}
use Rattle.journal_format.specs.Lines.{are_targets}
use Rattle.journal.specs.Locks.{LockTexts, odd_lock}
use Rattle.journal.specs.Opens.{Agrees, Checks, Finds, Fit, GoesOn, IsAnswer, IsReadTarget, NamesEnvironment, Present, PresentParts, TargetsRead, Then}
use Rattle.journal_format.specs.declared.header.Header.{Header}
use Rattle.journal_format.specs.declared.header.HeaderTarget.{HeaderTarget}
use Rattle.journal.proofs.StepFacts.{before, before-more}
use Rattle.journal.proofs.StepsJoined.{all-append}

-- the tests behind that for an odd lock file
abbrev pub reads_present : Header → List ℕ → LockTexts → Result State Refusal → Type 0
reads_present header requirements locks =
    Finds (λ lines. file_of requirements ≡ Ok lines) (FilesDisagree Requirements) (λ lines.
    Then (TargetsRead locks header.targets) (λ targets.
    Checks (AllByRecursion NamesEnvironment targets) (JournalBroken 1) (
    IsAnswer (record { lines = lines; targets = targets }))))

-- ---- the targets, one after the other

-- the targets before a place are read: what the others answer goes behind them
abbrev pub ReadSoFar : LockTexts → List HeaderTarget → ℕ → List Target → Type 0
ReadSoFar locks given place done = (answer : Result (List Target) Refusal) → TargetsRead locks (drop place given) answer → TargetsRead locks given (before done answer)

pub nothing_read : (locks : LockTexts) (given : List HeaderTarget) → ReadSoFar locks given 0 []
nothing_read locks given (Ok targets) h = h
nothing_read locks given (Err refusal) h = h

a_target : (locks : LockTexts) (one : HeaderTarget) (others : List HeaderTarget) (target : Target) (rest : Result (List Target) Refusal) → IsReadTarget locks one target → TargetsRead locks others rest
    → TargetsRead locks (one ∷ others) (before (target ∷ []) rest)
a_target locks one others target (Ok targets) is h = inl (target, is, (Ok targets, h, refl))
a_target locks one others target (Err refusal) is h = inl (target, is, (Err refusal, h, refl))

module _ (locks : LockTexts) (given : List HeaderTarget) (place : ℕ) (done : List Target) (so_far : ReadSoFar locks given place done) where
  -- the next target is read
  pub one_more : (one : HeaderTarget) (target : Target) → place < length given → one ≡ get_or given place one → IsReadTarget locks one target → ReadSoFar locks given (place + 1) (done ++ target ∷ [])
  one_more one target below is reads answer h =
      let at : drop place given ≡ one ∷ drop (place + 1) given = drop_more given place one below ∙ ap (λ g. g ∷ drop (place + 1) given) (sym is) in
      let whole : TargetsRead locks (drop place given) (before (target ∷ []) answer) =
      subst (λ gs. TargetsRead locks gs (before (target ∷ []) answer)) (sym at) (a_target locks one (drop (place + 1) given) target answer reads h) in
      subst (λ a. TargetsRead locks given a) (before-more done target answer) (so_far (before (target ∷ []) answer) whole)

  -- it isn't, or memory is refused
  pub refused : (one : HeaderTarget) (e : Refusal) → place < length given → one ≡ get_or given place one
      → (e ≡ OutOfMemory) ⊎ ((e ≡ FilesDisagree (Lock one.name)) × ((target : Target) → IsReadTarget locks one target → ⊥)) → (e ≡ OutOfMemory) ⊎ TargetsRead locks given (Err e)
  refused one e below is (inl memory) = inl memory
  refused one e below is (inr none) =
      let at : drop place given ≡ one ∷ drop (place + 1) given = drop_more given place one below ∙ ap (λ g. g ∷ drop (place + 1) given) (sym is) in
      inr (so_far (Err e) (subst (λ gs. TargetsRead locks gs (Err e)) (sym at) (inr (none.1, ap Err none.0))))

  -- all are read
  pub all_read : length given ≤ place → TargetsRead locks given (Ok done)
  all_read past =
      let whole : TargetsRead locks given (before done (Ok [])) = so_far (Ok []) (subst (λ gs. TargetsRead locks gs (Ok [])) (sym (drop_all place given past)) refl) in
      subst (λ ts. TargetsRead locks given (Ok ts)) (append-nil done) whole

-- ---- environments

-- what holds of each item holds of the one at a place
holds-at : {X : Type 0} (P : X → Type 0) (xs : List X) (i : ℕ) (x : X) → i < length xs → AllByRecursion P xs → P (get_or xs i x)
holds-at P [] i x within all = absurd (omega (arith, within))
holds-at P (y ∷ xs) zero x within all = all.0
holds-at P (y ∷ xs) (suc i) x within all = holds-at P xs i x (omega (arith, within)) all.1

pub named-more : (targets : List Target) (place : ℕ) (t : Target) → place < length targets → t ≡ get_or targets place t → AllByRecursion NamesEnvironment (take place targets) → NamesEnvironment t
    → AllByRecursion NamesEnvironment (take (place + 1) targets)
named-more targets place t within is so_far named =
    rw (take_more targets place t within, ← is) (all-append NamesEnvironment (take place targets) (t ∷ []) so_far (named, tt))

pub named-all : (targets : List Target) (place : ℕ) → length targets ≤ place → AllByRecursion NamesEnvironment (take place targets) → AllByRecursion NamesEnvironment targets
named-all targets place past so_far = subst (AllByRecursion NamesEnvironment) (take_all place targets past) so_far

pub named-not : (targets : List Target) (place : ℕ) (t : Target) (e : Refusal) → place < length targets → t ≡ get_or targets place t
    → (e ≡ OutOfMemory) ⊎ ((e ≡ JournalBroken 1) × (NamesEnvironment t → ⊥)) → (e ≡ OutOfMemory) ⊎ ((e ≡ JournalBroken 1) × (AllByRecursion NamesEnvironment targets → ⊥))
named-not targets place t e within is (inl memory) = inl memory
named-not targets place t e within is (inr other) = inr (other.0, λ all. other.1 (subst NamesEnvironment (sym is) (holds-at NamesEnvironment targets place t within all)))

-- ---- the present state

module _ (state : State) where
  -- the targets from one on fit: what follows is answered
  all-fit : (targets : List Target) (go_on : Result State Refusal → Type 0) (answer : Result State Refusal) → AllByRecursion (Fits state.lines (digest_of state.targets)) targets → go_on answer → Fit state targets go_on answer
  all-fit [] go_on answer fits h = h
  all-fit (t ∷ targets) go_on answer fits h = inl (fits.0, all-fit targets go_on answer fits.1 h)

  -- one doesn't, and is told
  one-unfit : (targets : List Target) (go_on : Result State Refusal → Type 0) (name : List ℕ) → IsFirstUnfit state.lines (digest_of state.targets) targets name → Fit state targets go_on (Err (FilesDisagree (Lock name)))
  one-unfit [] go_on name unfit = absurd unfit
  one-unfit (t ∷ targets) go_on name (inl more) = inl (more.0, one-unfit targets go_on name more.1)
  one-unfit (t ∷ targets) go_on name (inr here) = inr (here.0, ap (λ (n : List ℕ). Err (FilesDisagree (Lock n))) here.1)

split-fits : (lines : List (List ℕ)) (digest : List ℕ) (targets : List Target) → AllByRecursion (Fits lines digest) targets
    → AllByRecursion (λ t. IsLockFor lines t.environment t.lock) targets × AllByRecursion (λ t. t.lock.snapshot ≡ digest) targets
split-fits lines digest [] fits = (tt, tt)
split-fits lines digest (t ∷ targets) fits = let rest = split-fits lines digest targets fits.1 in ((fits.0.0, rest.0), (fits.0.1, rest.1))

read-by : (locks : LockTexts) (one : HeaderTarget) (given : List HeaderTarget) (targets : List Target) (target : Target) → IsReadTarget locks one target → (part : Result (List Target) Refusal)
    → ((others : List Target) → TargetsRead locks given (Ok others) → map (λ t. t.name) others ≡ map (λ t. t.name) given) → TargetsRead locks given part
    → GoesOn (λ others. IsAnswer (target ∷ others)) part (Ok targets) → map (λ t. t.name) targets ≡ map (λ t. t.name) (one ∷ given)
read-by locks one given targets target is (Ok others) rest h go_on =
    let whole : targets ≡ target ∷ others = cc in
    let behind = rest others h in
    ap (λ (ts : List Target). map (λ t. t.name) ts) whole ∙ (λ i. is.name i ∷ behind i)
read-by locks one given targets target is (Err e) rest h go_on = absurd cc

-- the header's names are those of the targets that are read
read-names : (locks : LockTexts) (given : List HeaderTarget) (targets : List Target) → TargetsRead locks given (Ok targets) → map (λ t. t.name) targets ≡ map (λ t. t.name) given
read-names locks [] targets h = let none : targets ≡ [] = cc in ap (λ (ts : List Target). map (λ t. t.name) ts) none
read-names locks (one ∷ given) targets (inl h) = read-by locks one given targets h.0 h.1 h.2.0 (λ others. read-names locks given others) h.2.1 h.2.2
read-names locks (one ∷ given) targets (inr h) = absurd (let is : Ok targets ≡ Err (FilesDisagree (Lock one.name)) = h.1 in cc)

targets-by : (header : Header) (locks : LockTexts) (lines : List (List ℕ)) (state : State) (part : Result (List Target) Refusal) → TargetsRead locks header.targets part
    → GoesOn (λ targets. Checks (AllByRecursion NamesEnvironment targets) (JournalBroken 1) (IsAnswer (record { lines = lines; targets = targets }))) part (Ok state)
    → map (λ t. t.name) state.targets ≡ map (λ t. t.name) header.targets
targets-by header locks lines state (Ok targets) read (inl named) =
    let whole : state ≡ record { lines = lines; targets = targets } = let is : Ok state ≡ Ok (record { lines = lines; targets = targets }) = named.1 in cc in
    ap (λ (s : State). map (λ t. t.name) s.targets) whole ∙ read-names locks header.targets targets read
targets-by header locks lines state (Ok targets) read (inr other) = absurd (let is : Ok state ≡ Err (JournalBroken 1) = other.1 in cc)
targets-by header locks lines state (Err e) read go_on = absurd (let is : Ok state ≡ Err e = go_on in cc)

-- the parts that were read have targets of the header's names
names-by : (odd : Option (List ℕ)) (header : Header) (requirements : List ℕ) (locks : LockTexts) (state : State) → Agrees odd (reads_present header requirements locks) (Ok state)
    → map (λ t. t.name) state.targets ≡ map (λ t. t.name) header.targets
names-by (Some name) header requirements locks state h = absurd (let is : Ok state ≡ Err (FilesDisagree (Lock name)) = h in cc)
names-by None header requirements locks state (inl h) = targets-by header locks h.0 state h.2.0 h.2.1 h.2.2
names-by None header requirements locks state (inr h) = absurd (let is : Ok state ≡ Err (FilesDisagree Requirements) = h.1 in cc)

parts-names : (header : Header) (requirements : List ℕ) (locks : LockTexts) (state : State) → PresentParts header requirements locks (Ok state) → map (λ t. t.name) state.targets ≡ map (λ t. t.name) header.targets
parts-names header requirements locks state (inl h) = names-by (odd_lock header locks) header requirements locks state h.1
parts-names header requirements locks state (inr h) = absurd (let is : Ok state ≡ Err (FilesDisagree Requirements) = h.1 in cc)

some-by : (names : List (List ℕ)) (targets : List HeaderTarget) → names ≡ map (λ t. t.name) targets → are_targets targets ≡ true → (names ≢ []) × (rises names ≡ true)
some-by names [] same rise = absurd cc
some-by names (t ∷ targets) same rise = (λ none. let is : [] ≡ map (λ t. t.name) (t ∷ targets) = sym none ∙ same in cc, ap rises same ∙ rise)

-- the parts that fit are a state
pub present-state : (header : Header) (requirements : List ℕ) (locks : LockTexts) (state : State) → are_targets header.targets ≡ true → PresentParts header requirements locks (Ok state)
    → file_of (concat state.lines) ≡ Ok state.lines → AllByRecursion (Fits state.lines (digest_of state.targets)) state.targets → IsState state
present-state header requirements locks state rise parts lines fits =
    let names = some-by (map (λ t. t.name) state.targets) header.targets (parts-names header requirements locks state parts) rise in
    let both = split-fits state.lines (digest_of state.targets) state.targets fits in
    record {
      lines = lines;
      some = λ none. names.0 (ap (λ (ts : List Target). map (λ t. t.name) ts) none);
      rising = names.1;
      locks = both.0;
      digest = both.1;
    }

-- the present state is found
pub present-found : (header : Header) (requirements : List ℕ) (locks : LockTexts) (state : State) → PresentParts header requirements locks (Ok state)
    → AllByRecursion (Fits state.lines (digest_of state.targets)) state.targets → Present header requirements locks (Ok state)
present-found header requirements locks state parts fits = (Ok state, parts, all-fit state state.targets (IsAnswer state) (Ok state) fits refl)

-- a lock doesn't fit
pub present-unfit : (header : Header) (requirements : List ℕ) (locks : LockTexts) (state : State) (name : List ℕ) → PresentParts header requirements locks (Ok state)
    → IsFirstUnfit state.lines (digest_of state.targets) state.targets name → Present header requirements locks (Err (FilesDisagree (Lock name)))
present-unfit header requirements locks state name parts unfit = (Ok state, parts, one-unfit state state.targets (IsAnswer state) name unfit)
