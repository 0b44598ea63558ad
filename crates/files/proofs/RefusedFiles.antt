-- Files that don't open are refused for one of them.
use Rattle.std.proofs.Common.{◌≡◌, ℕ, zero, suc, ◌+◌, List, [], ◌∷◌, ◌++◌, drop, length, reverse, take, Option, Some, None, Result, Ok, Err, refl, subst, sym, ◌∙◌, inl, inr}
use Rattle.states.specs.declared.refusal.Refusal.TheVariants.{FilesDisagree, JournalBroken}
use Rattle.states.specs.declared.refusal.SavedFile.TheVariants as saved
use Rattle.inputs.specs.Faults.{fault_of}
use Rattle.inputs.specs.declared.fault.Fault.TheVariants.{Input}
use Rattle.inputs.specs.declared.input_files.InputFault.{InputFault}
use Rattle.inputs.specs.declared.input_files.InputFault.TheVariants as inputs
use Rattle.inputs.specs.declared.input_files.InputFile.{InputFile}
use Rattle.inputs.specs.declared.input_files.InputFile.TheVariants as names
use Rattle.changes.specs.Changes.{ChangeParts}
use Rattle.journal.specs.Locks.{LockTexts, odd_lock}
use Rattle.journal.specs.Opens.{Agrees, Checks, Finds, Fit, GoesOn, IsAnswer, Opens, PastOf, Present, PresentParts, StatesBefore, StatesBehind, StepLines, TargetsRead, Then}
use Rattle.journal.specs.Values.{Refusal, State, Target}
use Rattle.journal_format.specs.declared.header.Header.{Header}
use Rattle.journal_format.specs.declared.header.HeaderTarget.{HeaderTarget}

-- a refusal is told of a file
abbrev IsOfFile : Refusal → Type 0
IsOfFile refusal = (file : InputFile) × (why : InputFault) × (fault_of refusal ≡ Input file why)

-- whatever is refused is told of a file
abbrev TellsFile : {A : Type 0} → (Result A Refusal → Type 0) → Type 0
TellsFile {A} Is = (answer : Result A Refusal) → Is answer → (refusal : Refusal) → answer ≡ Err refusal → IsOfFile refusal

requirements-file : IsOfFile (FilesDisagree saved.Requirements)
requirements-file = (names.Requirements, inputs.Disagrees, refl)

lock-file : (name : List ℕ) → IsOfFile (FilesDisagree (saved.Lock name))
lock-file name = (names.Lock name, inputs.Disagrees, refl)

journal-file : (line : ℕ) → IsOfFile (JournalBroken line)
journal-file line = (names.Journal, inputs.JournalBroken line, refl)

same-refusal : {A : Type 0} (answer : Result A Refusal) (a b : Refusal) → answer ≡ Err a → answer ≡ Err b → IsOfFile b → IsOfFile a
same-refusal answer a b one other of = let both : Err b ≡ Err a = sym other ∙ one in let is : b ≡ a = cc in subst IsOfFile is of

answer-tells : {A : Type 0} (x : A) → TellsFile (IsAnswer x)
answer-tells x answer is r refused = absurd (let no : Err r ≡ Ok x = sym refused ∙ is in cc)

finds-tells : {X A : Type 0} (Is : X → Type 0) (refusal : Refusal) (go_on : X → Result A Refusal → Type 0) → IsOfFile refusal → ((x : X) → TellsFile (go_on x)) → TellsFile (Finds Is refusal go_on)
finds-tells Is refusal go_on of on answer (inl h) r refused = on h.0 answer h.2 r refused
finds-tells Is refusal go_on of on answer (inr h) r refused = same-refusal answer r refusal refused h.1 of

checks-tells : {A : Type 0} (fact : Type 0) (refusal : Refusal) (go_on : Result A Refusal → Type 0) → IsOfFile refusal → TellsFile go_on → TellsFile (Checks fact refusal go_on)
checks-tells fact refusal go_on of on answer (inl h) r refused = on answer h.1 r refused
checks-tells fact refusal go_on of on answer (inr h) r refused = same-refusal answer r refusal refused h.1 of

goes-tells : {X A : Type 0} (Part : Result X Refusal → Type 0) (go_on : X → Result A Refusal → Type 0) → TellsFile Part → ((x : X) → TellsFile (go_on x)) → (part : Result X Refusal) → Part part → TellsFile (GoesOn go_on part)
goes-tells Part go_on of on (Ok x) is answer h r refused = on x answer h r refused
goes-tells Part go_on of on (Err e) is answer h r refused = same-refusal answer r e refused h (of (Err e) is e refl)

then-tells : {X A : Type 0} (Part : Result X Refusal → Type 0) (go_on : X → Result A Refusal → Type 0) → TellsFile Part → ((x : X) → TellsFile (go_on x)) → TellsFile (Then Part go_on)
then-tells Part go_on of on answer h r refused = goes-tells Part go_on of on h.0 h.1 answer h.2 r refused

agrees-tells : {A : Type 0} (odd : Option (List ℕ)) (go_on : Result A Refusal → Type 0) → TellsFile go_on → TellsFile (Agrees odd go_on)
agrees-tells None go_on on answer h r refused = on answer h r refused
agrees-tells (Some name) go_on on answer h r refused = same-refusal answer r (FilesDisagree (saved.Lock name)) refused h (lock-file name)

-- ---- the parts of the reading

targets-tell : (locks : LockTexts) (targets : List HeaderTarget) → TellsFile (TargetsRead locks targets)
targets-tell locks [] = answer-tells []
targets-tell locks (given ∷ others) = finds-tells _ _ _ (lock-file given.name) (λ target. then-tells _ _ (targets-tell locks others) (λ targets. answer-tells (target ∷ targets)))

parts-tell : (header : Header) (requirements : List ℕ) (locks : LockTexts) → TellsFile (PresentParts header requirements locks)
parts-tell header requirements locks =
    checks-tells _ _ _ requirements-file (agrees-tells (odd_lock header locks) _
    (finds-tells _ _ _ requirements-file (λ lines. then-tells _ _ (targets-tell locks header.targets) (λ targets. checks-tells _ _ _ (journal-file 1) (answer-tells _)))))

fit-tells : (state : State) (targets : List Target) (go_on : Result State Refusal → Type 0) → TellsFile go_on → TellsFile (Fit state targets go_on)
fit-tells state [] go_on on = on
fit-tells state (target ∷ targets) go_on on = checks-tells _ _ _ (lock-file target.name) (fit-tells state targets go_on on)

present-tells : (header : Header) (requirements : List ℕ) (locks : LockTexts) → TellsFile (Present header requirements locks)
present-tells header requirements locks = then-tells _ _ (parts-tell header requirements locks) (λ state. fit-tells state state.targets _ (answer-tells state))

steps-tell : (header : Header) (steps number : ℕ) (bytes : List ℕ) → TellsFile (StepLines header steps number bytes)
steps-tell header zero number bytes = checks-tells _ _ _ (journal-file number) (answer-tells [])
steps-tell header (suc steps) number bytes = finds-tells _ _ _ (journal-file number) (λ step. then-tells _ _ (steps-tell header steps (number + 1) step.1) (λ changes. answer-tells (step.0 ∷ changes)))

before-tells : (changes : List ChangeParts) (state : State) → TellsFile (StatesBefore changes state)
before-tells [] state = answer-tells []
before-tells (change ∷ changes) state = finds-tells _ _ _ (journal-file (length changes + 2)) (λ before. then-tells _ _ (before-tells changes before) (λ states. answer-tells (states ++ before ∷ [])))

behind-tells : (number : ℕ) (changes : List ChangeParts) (state : State) → TellsFile (StatesBehind number changes state)
behind-tells number [] state = answer-tells []
behind-tells number (change ∷ changes) state = finds-tells _ _ _ (journal-file number) (λ next. then-tells _ _ (behind-tells (number + 1) changes next) (λ states. answer-tells (next ∷ states)))

past-tells : (cursor : ℕ) (changes : List ChangeParts) (state : State) → TellsFile (PastOf cursor changes state)
past-tells cursor changes state =
    then-tells _ _ (before-tells (reverse (take cursor changes)) state) (λ before. then-tells _ _ (behind-tells (cursor + 2) (drop cursor changes) state) (λ behind. answer-tells _))

module _ (requirements : List ℕ) (locks : LockTexts) (journal : List ℕ) where
  all-tell : TellsFile (Opens requirements locks journal)
  all-tell =
      finds-tells _ _ _ (journal-file 1)
      (λ begin. then-tells _ _ (present-tells begin.0 requirements locks)
      (λ state. then-tells _ _ (steps-tell begin.0 begin.0.steps 2 begin.1)
      (λ changes. then-tells _ _ (past-tells begin.0.cursor changes state) (λ past. answer-tells _))))

  -- files that don't open are refused for one of them
  pub opens-tells : (refusal : Refusal) → Opens requirements locks journal (Err refusal) → (file : InputFile) × (why : InputFault) × (fault_of refusal ≡ Input file why)
  opens-tells refusal refused = all-tell (Err refusal) refused refusal refl
