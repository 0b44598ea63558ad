-- What a requirements file, lock files and a journal stand for: a history, or the first of their faults. All of it is reqlock's own rule.
use Rattle.std.specs.Prelude.{◌≡◌, ◌⊎◌, ℕ, zero, suc, ◌+◌, List, [], ◌∷◌, ◌++◌, drop, length, map, reverse, take, Option, Some, None, ⊤, Result, Ok, Err}
use Rattle.std.specs.List.{AllByRecursion}
use Rattle.markers.specs.Environment.{marker_text}
use Rattle.pep508.specs.Requirement.{file_of}
use Rattle.pylock.specs.LockOfTable.{lock_in_text}
use Rattle.sha2.specs.Sha256.{sha256}
use Rattle.changes.specs.Changes.{ChangeParts, Leads, inverse}
use Rattle.states.specs.State.{Fits}
use Rattle.states.specs.StateParts.{digest_of}
use Rattle.states.specs.declared.refusal.Refusal.TheVariants.{FilesDisagree, JournalBroken}
use Rattle.states.specs.declared.refusal.SavedFile.TheVariants.{Lock, Requirements}
use Rattle.journal.specs.Values.{State, Target, Refusal, OutOfMemory}
use Rattle.journal.specs.Past.{Past}
use Rattle.journal.specs.Changes.{HistoryParts, parts_of}
use Rattle.journal_format.specs.Lines.{IsStepLine, cut_line, header_of_line}
use Rattle.journal.specs.Locks.{LockTexts, lock_at, odd_lock}
use Rattle.journal_format.specs.declared.header.Header.{Header}
use Rattle.journal_format.specs.declared.header.HeaderTarget.{HeaderTarget}
use Rattle.journal.specs.declared.told.Told.{Told}

-- ---- tests one after the other

-- what is looked for is there, and the answer goes on with it; or it isn't, and this refusal is the answer
abbrev pub Finds : {X A : Type 0} → (X → Type 0) → Refusal → (X → Result A Refusal → Type 0) → Result A Refusal → Type 0
Finds {X} Is refusal go_on answer = ((x : X) × Is x × go_on x answer) ⊎ (((x : X) → Is x → ⊥) × (answer ≡ Err refusal))

-- this holds, and the answer goes on; or it doesn't, and this refusal is the answer
abbrev pub Checks : {A : Type 0} → Type 0 → Refusal → (Result A Refusal → Type 0) → Result A Refusal → Type 0
Checks fact refusal go_on answer = (fact × go_on answer) ⊎ ((fact → ⊥) × (answer ≡ Err refusal))

-- the answer goes on with what a part answers; or the part is refused, and its refusal is the answer
abbrev pub GoesOn : {X A : Type 0} → (X → Result A Refusal → Type 0) → Result X Refusal → Result A Refusal → Type 0
GoesOn go_on (Ok x) answer = go_on x answer
GoesOn go_on (Err refusal) answer = answer ≡ Err refusal

abbrev pub Then : {X A : Type 0} → (Result X Refusal → Type 0) → (X → Result A Refusal → Type 0) → Result A Refusal → Type 0
Then {X} Part go_on answer = (part : Result X Refusal) × Part part × GoesOn go_on part answer

-- this is the answer
abbrev pub IsAnswer : {A : Type 0} → A → Result A Refusal → Type 0
IsAnswer x answer = answer ≡ Ok x

-- what a part of the reading answers: what was looked for; or that there was no memory; or this refusal, where nothing is as it
-- was looked for
abbrev pub Found : {X : Type 0} → (X → Type 0) → Refusal → Result X Refusal → Type 0
Found Is refusal (Ok x) = Is x
Found {X} Is refusal (Err e) = (e ≡ OutOfMemory) ⊎ ((e ≡ refusal) × ((x : X) → Is x → ⊥))

-- the same of a fact that is checked
abbrev pub Holds : Type 0 → Refusal → Result ⊤ Refusal → Type 0
Holds fact refusal (Ok u) = fact
Holds fact refusal (Err e) = (e ≡ OutOfMemory) ⊎ ((e ≡ refusal) × (fact → ⊥))

-- ---- the header, and the present state

-- the journal begins with the line of this header, and these bytes stand behind it
pub record BeginsWith (journal : List ℕ) (begin : Header × List ℕ) : Type 0 where
  pub line : List ℕ
  pub cut : cut_line journal ≡ Some (line, begin.1)
  pub header : header_of_line line ≡ Ok begin.0

-- no lock file is odd, and the answer goes on; or the odd one is told
abbrev pub Agrees : {A : Type 0} → Option (List ℕ) → (Result A Refusal → Type 0) → Result A Refusal → Type 0
Agrees None go_on answer = go_on answer
Agrees (Some name) go_on answer = answer ≡ Err (FilesDisagree (Lock name))

-- a target of the header, with the lock that its lock file is read as
pub record IsReadTarget (locks : LockTexts) (given : HeaderTarget) (target : Target) : Type 0 where
  pub name : target.name ≡ given.name
  pub environment : target.environment ≡ given.environment
  pub text : List ℕ
  pub there : lock_at locks given.name ≡ Some text
  pub reads : lock_in_text text ≡ Ok target.lock

-- each target of the header with its lock
abbrev pub TargetsRead : LockTexts → List HeaderTarget → Result (List Target) Refusal → Type 0
TargetsRead locks [] = IsAnswer []
TargetsRead locks (given ∷ others) =
    Finds (IsReadTarget locks given) (FilesDisagree (Lock given.name)) (λ target.
    Then (TargetsRead locks others) (λ targets.
    IsAnswer (target ∷ targets)))

-- the lock names the target's environment
abbrev pub NamesEnvironment : Target → Type 0
NamesEnvironment target = target.lock.environment ≡ marker_text target.environment

-- the parts of the present state: the digests of all files agree, all files read, and each lock names its target's environment
abbrev pub PresentParts : Header → List ℕ → LockTexts → Result State Refusal → Type 0
PresentParts header requirements locks =
    Checks (header.requirements ≡ sha256 requirements) (FilesDisagree Requirements) (
    Agrees (odd_lock header locks) (
    Finds (λ lines. file_of requirements ≡ Ok lines) (FilesDisagree Requirements) (λ lines.
    Then (TargetsRead locks header.targets) (λ targets.
    Checks (AllByRecursion NamesEnvironment targets) (JournalBroken 1) (
    IsAnswer (record { lines = lines; targets = targets }))))))

-- the lock of each of these targets is one for the lines of the state, with the digest of its first lock
abbrev pub Fit : State → List Target → (Result State Refusal → Type 0) → Result State Refusal → Type 0
Fit state [] go_on = go_on
Fit state (target ∷ targets) go_on =
    Checks (Fits state.lines (digest_of state.targets) target) (FilesDisagree (Lock target.name)) (
    Fit state targets go_on)

-- the present state, for which all holds that holds of every state
abbrev pub Present : Header → List ℕ → LockTexts → Result State Refusal → Type 0
Present header requirements locks =
    Then (PresentParts header requirements locks) (λ state. Fit state state.targets (IsAnswer state))

-- ---- the steps

-- bytes begin with a line that is a step behind this header, and others stand behind it
pub record StepAt (header : Header) (bytes : List ℕ) (step : ChangeParts × List ℕ) : Type 0 where
  pub line : List ℕ
  pub cut : cut_line bytes ≡ Some (line, step.1)
  pub is_step : IsStepLine header line step.0

-- so many steps, the first of them in the line of this number, and nothing behind them
abbrev pub StepLines : Header → ℕ → ℕ → List ℕ → Result (List ChangeParts) Refusal → Type 0
StepLines header zero number bytes = Checks (bytes ≡ []) (JournalBroken number) (IsAnswer [])
StepLines header (suc steps) number bytes =
    Finds (StepAt header bytes) (JournalBroken number) (λ step.
    Then (StepLines header steps (number + 1) step.1) (λ changes.
    IsAnswer (step.0 ∷ changes)))

-- ---- the states

-- the states that changes lead back to, from the nearest change on; the first change of a journal is in line 2
abbrev pub StatesBefore : List ChangeParts → State → Result (List State) Refusal → Type 0
StatesBefore [] state = IsAnswer []
StatesBefore (change ∷ changes) state =
    Finds (Leads state (inverse change)) (JournalBroken (length changes + 2)) (λ before.
    Then (StatesBefore changes before) (λ states.
    IsAnswer (states ++ before ∷ [])))

-- the states that changes lead on to; the first change is in the line of this number
abbrev pub StatesBehind : ℕ → List ChangeParts → State → Result (List State) Refusal → Type 0
StatesBehind number [] state = IsAnswer []
StatesBehind number (change ∷ changes) state =
    Finds (Leads state change) (JournalBroken number) (λ next.
    Then (StatesBehind (number + 1) changes next) (λ states.
    IsAnswer (next ∷ states)))

-- the history that changes lead to from the present state, in both directions
abbrev pub PastOf : ℕ → List ChangeParts → State → Result Past Refusal → Type 0
PastOf cursor changes state =
    Then (StatesBefore (reverse (take cursor changes)) state) (λ before.
    Then (StatesBehind (cursor + 2) (drop cursor changes) state) (λ behind.
    IsAnswer (record { states = before ++ state ∷ behind; cursor = cursor })))

-- what a requirements file, lock files and a journal stand for, or the first of their faults. The history's changes are the steps
-- that the journal's lines are
abbrev pub Opens : List ℕ → LockTexts → List ℕ → Result HistoryParts Refusal → Type 0
Opens requirements locks journal =
    Finds (BeginsWith journal) (JournalBroken 1) (λ begin.
    Then (Present begin.0 requirements locks) (λ state.
    Then (StepLines begin.0 begin.0.steps 2 begin.1) (λ changes.
    Then (PastOf begin.0.cursor changes state) (λ past.
    IsAnswer (parts_of past changes)))))

-- what lock files and a journal tell without the requirements file, or the first of their faults: the place of the present state, the
-- steps that the journal's lines are, and the present targets
abbrev pub ToldBy : LockTexts → List ℕ → Result Told Refusal → Type 0
ToldBy locks journal =
    Finds (BeginsWith journal) (JournalBroken 1) (λ begin.
    Agrees (odd_lock begin.0 locks) (
    Then (TargetsRead locks begin.0.targets) (λ targets.
    Checks (AllByRecursion NamesEnvironment targets) (JournalBroken 1) (
    Then (StepLines begin.0 begin.0.steps 2 begin.1) (λ changes.
    IsAnswer (record { cursor = begin.0.cursor; changes = changes; targets = targets }))))))

-- the names of a journal's targets, or that it doesn't begin with a header
abbrev pub NamesTargets : List ℕ → Result (List (List ℕ)) Refusal → Type 0
NamesTargets journal = Finds (BeginsWith journal) (JournalBroken 1) (λ begin. IsAnswer (map (λ t. t.name) begin.0.targets))

-- what a call that takes memory answers: what the relation asks for, or that there was no memory
abbrev pub Tells : {A : Type 0} → (Result A Refusal → Type 0) → Result A Refusal → Type 0
Tells Is (Ok x) = Is (Ok x)
Tells Is (Err refusal) = (refusal ≡ OutOfMemory) ⊎ Is (Err refusal)
