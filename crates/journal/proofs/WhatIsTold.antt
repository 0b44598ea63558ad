-- What files that stand for a history tell without the requirements file.
use Rattle.std.proofs.Common.{◌≡◌, ◌⊎◌, ℕ, ◌+◌, ◌≤◌, List, [], ◌∷◌, ◌++◌, drop, length, take, Option, Some, None, Result, Ok, Err, refl, sym, ap, subst, ◌∙◌, inl, inr, arith}
use Rattle.std.specs.Prelude.{reverse}
use Rattle.std.specs.List.{AllByRecursion}
use Rattle.std.proofs.lemmas.List.{length-reverse, length-take-le}
use Rattle.pep508.specs.Requirement.{file_of}
use Rattle.changes.specs.Changes.{ChangeParts}
use Rattle.sha2.specs.Sha256.{sha256}
use Rattle.states.specs.State.{Fits}
use Rattle.states.specs.StateParts.{digest_of}
use Rattle.states.specs.declared.refusal.Refusal.TheVariants.{FilesDisagree, JournalBroken}
use Rattle.states.specs.declared.refusal.SavedFile.TheVariants.{Lock, Requirements}
use Rattle.journal.specs.Values.{State, Target, Refusal, OutOfMemory}
use Rattle.journal.specs.Past.{Past, present}
use Rattle.journal.specs.Changes.{HistoryParts, parts_of}
use Rattle.journal.specs.Locks.{LockTexts, odd_lock}
use Rattle.journal.specs.Opens.{Agrees, BeginsWith, Checks, Finds, Fit, GoesOn, IsAnswer, NamesEnvironment, Opens, PastOf, Present, PresentParts, StatesBefore, StatesBehind, StepLines, TargetsRead, Then, ToldBy}
use Rattle.journal.specs.declared.told.Told.{Told}
use Rattle.journal_format.specs.declared.header.Header.{Header}
use Rattle.journal_format.specs.declared.header.HeaderTarget.{HeaderTarget}
use Rattle.journal_format.proofs.HeaderFacts.{header-read}
use Rattle.journal.proofs.PresentFacts.{reads_present}
use Rattle.journal.proofs.HistoryFound.{behind-others, count-before}
use Rattle.journal.proofs.StepFacts.{steps-count}

-- ---- what an answer that isn't refused went through

found : {X A : Type 0} (Is : X → Type 0) (refusal : Refusal) (go_on : X → Result A Refusal → Type 0) (a : A) → Finds Is refusal go_on (Ok a) → (x : X) × Is x × go_on x (Ok a)
found Is refusal go_on a (inl h) = h
found Is refusal go_on a (inr h) = absurd (let is : Ok a ≡ Err refusal = h.1 in cc)

checked : {A : Type 0} (fact : Type 0) (refusal : Refusal) (go_on : Result A Refusal → Type 0) (a : A) → Checks fact refusal go_on (Ok a) → fact × go_on (Ok a)
checked fact refusal go_on a (inl h) = h
checked fact refusal go_on a (inr h) = absurd (let is : Ok a ≡ Err refusal = h.1 in cc)

went_on : {X A : Type 0} (Part : Result X Refusal → Type 0) (go_on : X → Result A Refusal → Type 0) (a : A) (part : Result X Refusal) → Part part → GoesOn go_on part (Ok a) → (x : X) × Part (Ok x) × go_on x (Ok a)
went_on Part go_on a (Ok x) is h = (x, is, h)
went_on Part go_on a (Err refusal) is h = absurd (let no : Ok a ≡ Err refusal = h in cc)

went-on : {X A : Type 0} (Part : Result X Refusal → Type 0) (go_on : X → Result A Refusal → Type 0) (a : A) → Then Part go_on (Ok a) → (x : X) × Part (Ok x) × go_on x (Ok a)
went-on Part go_on a h = went_on Part go_on a h.0 h.1 h.2

agreed : {A : Type 0} (odd : Option (List ℕ)) (go_on : Result A Refusal → Type 0) (a : A) → Agrees odd go_on (Ok a) → (odd ≡ None) × go_on (Ok a)
agreed None go_on a h = (refl, h)
agreed (Some name) go_on a h = absurd (let is : Ok a ≡ Err (FilesDisagree (Lock name)) = h in cc)

-- a state whose locks fit is the answer
fitted : (state : State) (targets : List Target) (answer : State) → Fit state targets (IsAnswer state) (Ok answer) → answer ≡ state
fitted state [] answer h = let is : Ok answer ≡ Ok state = h in cc
fitted state (target ∷ targets) answer h =
    fitted state targets answer (checked (Fits state.lines (digest_of state.targets) target) (FilesDisagree (Lock target.name)) (Fit state targets (IsAnswer state)) answer h).1

-- ---- what is told

-- the tests behind that for an odd lock file
abbrev tells_behind : LockTexts → Header → List ℕ → Result Told Refusal → Type 0
tells_behind locks header steps =
    Then (TargetsRead locks header.targets) (λ targets.
    Checks (AllByRecursion NamesEnvironment targets) (JournalBroken 1) (
    Then (StepLines header header.steps 2 steps) (λ changes.
    IsAnswer (record { cursor = header.cursor; changes = changes; targets = targets }))))

behind-locks : (locks : LockTexts) (journal : List ℕ) (begin : Header × List ℕ) (answer : Result Told Refusal) → BeginsWith journal begin → odd_lock begin.0 locks ≡ None → tells_behind locks begin.0 begin.1 answer
    → ToldBy locks journal answer
behind-locks locks journal begin answer begins none behind = inl (begin, begins, subst (λ odd. Agrees odd (tells_behind locks begin.0 begin.1) answer) (sym none) behind)

told : (locks : LockTexts) (journal : List ℕ) (begin : Header × List ℕ) (targets : List Target) (changes : List ChangeParts) (answer : Told) → BeginsWith journal begin → odd_lock begin.0 locks ≡ None
    → TargetsRead locks begin.0.targets (Ok targets) → AllByRecursion NamesEnvironment targets → StepLines begin.0 begin.0.steps 2 begin.1 (Ok changes)
    → answer ≡ record { cursor = begin.0.cursor; changes = changes; targets = targets } → ToldBy locks journal (Ok answer)
told locks journal begin targets changes answer begins none read named steps is =
    behind-locks locks journal begin (Ok answer) begins none (Ok targets, read, inl (named, (Ok changes, steps, λ i. Ok (is i))))

-- what a reading answers behind its locks, over the targets as they are lent
module _ (locks : LockTexts) (journal : List ℕ) (begin : Header × List ℕ) (given : List HeaderTarget) (targets lent : List Target) (begins : BeginsWith journal begin) (none : odd_lock begin.0 locks ≡ None)
    (is_given : given ≡ begin.0.targets) (read : TargetsRead locks given (Ok targets)) (is_lent : lent ≡ targets) where
  read-again : TargetsRead locks begin.0.targets (Ok targets)
  read-again = subst (λ (ts : List HeaderTarget). TargetsRead locks ts (Ok targets)) is_given read

  named-again : AllByRecursion NamesEnvironment lent → AllByRecursion NamesEnvironment targets
  named-again named = subst (λ (ts : List Target). AllByRecursion NamesEnvironment ts) is_lent named

  -- a lock names another environment, or memory is refused
  pub environments-refused : (e : Refusal) → (e ≡ OutOfMemory) ⊎ ((e ≡ JournalBroken 1) × (AllByRecursion NamesEnvironment lent → ⊥)) → (e ≡ OutOfMemory) ⊎ ToldBy locks journal (Err e)
  environments-refused e (inl memory) = inl memory
  environments-refused e (inr other) =
      let not : AllByRecursion NamesEnvironment targets → ⊥ = λ named. other.1 (subst (λ (ts : List Target). AllByRecursion NamesEnvironment ts) (sym is_lent) named) in
      inr (behind-locks locks journal begin (Err e) begins none (Ok targets, read-again, inr (not, ap Err other.0)))

  -- a step isn't one, or memory is refused
  pub steps-refused : AllByRecursion NamesEnvironment lent → (e : Refusal) → (e ≡ OutOfMemory) ⊎ StepLines begin.0 begin.0.steps 2 begin.1 (Err e) → (e ≡ OutOfMemory) ⊎ ToldBy locks journal (Err e)
  steps-refused named e (inl memory) = inl memory
  steps-refused named e (inr other) = inr (behind-locks locks journal begin (Err e) begins none (Ok targets, read-again, inl (named-again named, (Err e, other, refl))))

  -- all is read
  pub all-told : AllByRecursion NamesEnvironment lent → (changes : List ChangeParts) → StepLines begin.0 begin.0.steps 2 begin.1 (Ok changes)
      → ToldBy locks journal (Ok (record { cursor = begin.0.cursor; changes = changes; targets = targets }))
  all-told named changes steps = told locks journal begin targets changes (record { cursor = begin.0.cursor; changes = changes; targets = targets }) begins none read-again (named-again named) steps refl

-- the parts of a present state that was read
record AreParts (header : Header) (requirements : List ℕ) (locks : LockTexts) (state : State) : Type 0 where
  none : odd_lock header locks ≡ None
  read : TargetsRead locks header.targets (Ok state.targets)
  named : AllByRecursion NamesEnvironment state.targets

abbrev with_targets : List (List ℕ) → List Target → Result State Refusal → Type 0
with_targets lines targets = Checks (AllByRecursion NamesEnvironment targets) (JournalBroken 1) (IsAnswer (record { lines = lines; targets = targets }))

are-parts : (header : Header) (requirements : List ℕ) (locks : LockTexts) (state : State) → PresentParts header requirements locks (Ok state) → AreParts header requirements locks state
are-parts header requirements locks state h =
    let digest = checked (header.requirements ≡ sha256 requirements) (FilesDisagree Requirements) (Agrees (odd_lock header locks) (reads_present header requirements locks)) state h in
    let odd = agreed (odd_lock header locks) (reads_present header requirements locks) state digest.1 in
    let lines = found (λ lines. file_of requirements ≡ Ok lines) (FilesDisagree Requirements) (λ lines. Then (TargetsRead locks header.targets) (with_targets lines)) state odd.1 in
    let targets = went-on (TargetsRead locks header.targets) (with_targets lines.0) state lines.2 in
    let named = checked (AllByRecursion NamesEnvironment targets.0) (JournalBroken 1) (IsAnswer (record { lines = lines.0; targets = targets.0 })) state targets.2 in
    let whole : state ≡ record { lines = lines.0; targets = targets.0 } = let is : Ok state ≡ Ok (record { lines = lines.0; targets = targets.0 }) = named.1 in cc in
    let same : targets.0 ≡ state.targets = ap (λ (s : State). s.targets) (sym whole) in
    record {
      none = odd.0;
      read = subst (λ (ts : List Target). TargetsRead locks header.targets (Ok ts)) same targets.1;
      named = subst (λ (ts : List Target). AllByRecursion NamesEnvironment ts) same named.0;
    }

abbrev with_behind : ℕ → State → List State → List State → Result Past Refusal → Type 0
with_behind cursor state before behind = IsAnswer (record { states = before ++ state ∷ behind; cursor = cursor })

-- the present state of a past that was found is the one that it was found from
present-at : (cursor : ℕ) (changes : List ChangeParts) (state : State) (past : Past) → cursor ≤ length changes → PastOf cursor changes state (Ok past) → (past.cursor ≡ cursor) × (present past ≡ Some state)
present-at cursor changes state past within h =
    let before = went-on (StatesBefore (reverse (take cursor changes)) state) (λ before. Then (StatesBehind (cursor + 2) (drop cursor changes) state) (with_behind cursor state before)) past h in
    let behind = went-on (StatesBehind (cursor + 2) (drop cursor changes) state) (with_behind cursor state before.0) past before.2 in
    let whole : past ≡ record { states = before.0 ++ state ∷ behind.0; cursor = cursor } = let is : Ok past ≡ Ok (record { states = before.0 ++ state ∷ behind.0; cursor = cursor }) = behind.2 in cc in
    let first = count-before (reverse (take cursor changes)) state before.0 before.1 in
    let turned = length-reverse (take cursor changes) in
    let taken = length-take-le cursor changes within in
    let count : length before.0 ≡ cursor = omega (arith, first, turned, taken) in
    (ap (λ (p : Past). p.cursor) whole, ap (λ (p : Past). present p) whole ∙ behind-others before.0 state behind.0 cursor count)

-- what is tested of a history behind its header, its present state and its steps
abbrev with_changes : Header → State → List ChangeParts → Result HistoryParts Refusal → Type 0
with_changes header state changes = Then (PastOf header.cursor changes state) (λ past. IsAnswer (parts_of past changes))

abbrev with_state : Header → List ℕ → State → Result HistoryParts Refusal → Type 0
with_state header steps state = Then (StepLines header header.steps 2 steps) (with_changes header state)

abbrev with_header : List ℕ → LockTexts → Header × List ℕ → Result HistoryParts Refusal → Type 0
with_header requirements locks begin = Then (Present begin.0 requirements locks) (with_state begin.0 begin.1)

-- where files stand for a history, the locks and the journal tell what they tell of it
pub what-opens : (requirements : List ℕ) (locks : LockTexts) (journal : List ℕ) (history : HistoryParts) (state : State) → Opens requirements locks journal (Ok history) → present history.past ≡ Some state
    → ToldBy locks journal (Ok (record { cursor = history.past.cursor; changes = history.changes; targets = state.targets }))
what-opens requirements locks journal history state opens at =
    let begin = found (BeginsWith journal) (JournalBroken 1) (with_header requirements locks) history opens in
    let header = begin.0.0 in
    let now = went-on (Present header requirements locks) (with_state header begin.0.1) history begin.2 in
    let parts = went-on (PresentParts header requirements locks) (λ state. Fit state state.targets (IsAnswer state)) now.0 now.1 in
    let same : now.0 ≡ parts.0 = fitted parts.0 parts.0.targets now.0 parts.2 in
    let are = are-parts header requirements locks now.0 (subst (λ (s : State). PresentParts header requirements locks (Ok s)) (sym same) parts.1) in
    let steps = went-on (StepLines header header.steps 2 begin.0.1) (with_changes header now.0) history now.2 in
    let past = went-on (PastOf header.cursor steps.0 now.0) (λ past. IsAnswer (parts_of past steps.0)) history steps.2 in
    let whole : history ≡ parts_of past.0 steps.0 = let is : Ok history ≡ Ok (parts_of past.0 steps.0) = past.2 in cc in
    let count = steps-count header header.steps 2 begin.0.1 steps.0 steps.1 in
    let bound = (header-read begin.1.line header begin.1.header).within in
    let within : header.cursor ≤ length steps.0 = omega (arith, count, bound) in
    let at_cursor = present-at header.cursor steps.0 now.0 past.0 within past.1 in
    let pasts : history.past ≡ past.0 = ap (λ (h : HistoryParts). h.past) whole in
    let changes : history.changes ≡ steps.0 = ap (λ (h : HistoryParts). h.changes) whole in
    let cursor : history.past.cursor ≡ header.cursor = ap (λ (p : Past). p.cursor) pasts ∙ at_cursor.0 in
    let now_at : present history.past ≡ Some now.0 = ap (λ (p : Past). present p) pasts ∙ at_cursor.1 in
    let states : state ≡ now.0 = let both : Some state ≡ Some now.0 = sym at ∙ now_at in cc in
    told locks journal begin.0 now.0.targets steps.0 (record { cursor = history.past.cursor; changes = history.changes; targets = state.targets })
    begin.1 are.none are.read are.named steps.1 (λ i. record { cursor = cursor i; changes = changes i; targets = (states i).targets })
