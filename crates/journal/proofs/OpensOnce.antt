-- Files stand for one history, or have one first fault.
use Rattle.std.proofs.Common.{◌≡◌, ℕ, zero, suc, ◌+◌, List, [], ◌∷◌, ◌++◌, drop, reverse, take, Option, Some, None, Result, Ok, Err, sym, ap, subst, ◌∙◌, inl, inr}
use Rattle.pep508.specs.Requirement.{file_of}
use Rattle.pylock.specs.LockOfTable.{lock_in_text}
use Rattle.changes.specs.Changes.{ChangeParts, Leads, inverse}
use Rattle.changes.specs.Laws.{AChangeLeadsToOneState}
use Rattle.journal.specs.Values.{State, Target, Refusal}
use Rattle.journal_format.specs.Lines.{cut_line, header_of_line, step_of_line}
use Rattle.journal.specs.Locks.{LockTexts, odd_lock}
use Rattle.journal.specs.Opens.{Agrees, Checks, BeginsWith, Finds, Fit, IsAnswer, IsReadTarget, GoesOn, Opens, PastOf, Present, PresentParts, StatesBefore, StatesBehind, StepAt, StepLines, TargetsRead, Then}
use Rattle.journal_format.specs.declared.header.Header.{Header}
use Rattle.journal_format.specs.declared.header.HeaderTarget.{HeaderTarget}

-- there is one answer at most
abbrev pub IsOnce : {A : Type 0} → (Result A Refusal → Type 0) → Type 0
IsOnce {A} Is = (a b : Result A Refusal) → Is a → Is b → a ≡ b

gives-once : {A : Type 0} (x : A) → IsOnce (IsAnswer x)
gives-once x a b p q = p ∙ sym q

checks-once : {A : Type 0} (fact : Type 0) (refusal : Refusal) (go_on : Result A Refusal → Type 0) → IsOnce go_on → IsOnce (Checks fact refusal go_on)
checks-once fact refusal go_on on a b (inl p) (inl q) = on a b p.1 q.1
checks-once fact refusal go_on on a b (inl p) (inr q) = absurd (q.0 p.0)
checks-once fact refusal go_on on a b (inr p) (inl q) = absurd (p.0 q.0)
checks-once fact refusal go_on on a b (inr p) (inr q) = p.1 ∙ sym q.1

-- nothing but one value is so
abbrev pub IsAlone : {X : Type 0} → (X → Type 0) → Type 0
IsAlone {X} Is = (x y : X) → Is x → Is y → x ≡ y

finds-once : {X A : Type 0} (Is : X → Type 0) (refusal : Refusal) (go_on : X → Result A Refusal → Type 0) → IsAlone Is → ((x : X) → IsOnce (go_on x)) → IsOnce (Finds Is refusal go_on)
finds-once Is refusal go_on alone on a b (inl p) (inl q) = on q.0 a b (subst (λ x. go_on x a) (alone p.0 q.0 p.1 q.1) p.2) q.2
finds-once Is refusal go_on alone on a b (inl p) (inr q) = absurd (q.0 p.0 p.1)
finds-once Is refusal go_on alone on a b (inr p) (inl q) = absurd (p.0 q.0 q.1)
finds-once Is refusal go_on alone on a b (inr p) (inr q) = p.1 ∙ sym q.1

goes-once : {X A : Type 0} (go_on : X → Result A Refusal → Type 0) → ((x : X) → IsOnce (go_on x)) → (part : Result X Refusal) → IsOnce (GoesOn go_on part)
goes-once go_on on (Ok x) a b p q = on x a b p q
goes-once go_on on (Err refusal) a b p q = p ∙ sym q

then-once : {X A : Type 0} (Part : Result X Refusal → Type 0) (go_on : X → Result A Refusal → Type 0) → IsOnce Part → ((x : X) → IsOnce (go_on x)) → IsOnce (Then Part go_on)
then-once Part go_on one on a b p q = goes-once go_on on q.0 a b (subst (λ part. GoesOn go_on part a) (one p.0 q.0 p.1 q.1) p.2) q.2

-- ---- the header, and the present state

read-alone : {X E : Type 0} (r : Result X E) → IsAlone (λ x. r ≡ Ok x)
read-alone r x y p q = let same : Ok x ≡ Ok y = sym p ∙ q in cc

-- what is cut off, and what is left
cut-alone : (found : Option (List ℕ × List ℕ)) (x y : List ℕ × List ℕ) → found ≡ Some x → found ≡ Some y → x ≡ y
cut-alone found x y p q = let same : Some x ≡ Some y = sym p ∙ q in cc

module _ {X E : Type 0} (bytes : List ℕ) (reading : List ℕ → Result X E) where
  -- bytes begin with a line that is read, and with what is behind it
  one-line : (x y : X × List ℕ) (line other : List ℕ) → cut_line bytes ≡ Some (line, x.1) → cut_line bytes ≡ Some (other, y.1) → reading line ≡ Ok x.0 → reading other ≡ Ok y.0 → x ≡ y
  one-line x y line other cut again read same =
      let cuts : (line, x.1) ≡ (other, y.1) = cut-alone (cut_line bytes) (line, x.1) (other, y.1) cut again in
      let lines : line ≡ other = ap (λ p. p.0) cuts in
      let behind : x.1 ≡ y.1 = ap (λ p. p.1) cuts in
      let first : x.0 ≡ y.0 = read-alone (reading other) x.0 y.0 (sym (ap reading lines) ∙ read) same in
      λ i. (first i, behind i)

begins-alone : (journal : List ℕ) → IsAlone (BeginsWith journal)
begins-alone journal x y p q = one-line journal header_of_line x y p.line q.line p.cut q.cut p.header q.header

step-alone : (header : Header) (bytes : List ℕ) → IsAlone (StepAt header bytes)
step-alone header bytes x y p q = one-line bytes (step_of_line header) x y p.line q.line p.cut q.cut p.is_step.reads q.is_step.reads

agrees-once : {A : Type 0} (odd : Option (List ℕ)) (go_on : Result A Refusal → Type 0) → IsOnce go_on → IsOnce (Agrees odd go_on)
agrees-once None go_on on a b p q = on a b p q
agrees-once (Some name) go_on on a b p q = p ∙ sym q

read-target-alone : (locks : LockTexts) (given : HeaderTarget) → IsAlone (IsReadTarget locks given)
read-target-alone locks given x y p q =
    let texts : p.text ≡ q.text = let same : Some p.text ≡ Some q.text = sym p.there ∙ q.there in cc in
    let locked : x.lock ≡ y.lock = read-alone (lock_in_text q.text) x.lock y.lock (subst (λ (t : List ℕ). lock_in_text t ≡ Ok x.lock) texts p.reads) q.reads in
    let names : x.name ≡ y.name = p.name ∙ sym q.name in
    let environments : x.environment ≡ y.environment = p.environment ∙ sym q.environment in
    λ i. record { name = names i; environment = environments i; lock = locked i }

targets-once : (locks : LockTexts) (targets : List HeaderTarget) → IsOnce (TargetsRead locks targets)
targets-once locks [] = gives-once []
targets-once locks (given ∷ others) = finds-once _ _ _ (read-target-alone locks given) (λ target. then-once _ _ (targets-once locks others) (λ targets. gives-once (target ∷ targets)))

parts-once : (header : Header) (requirements : List ℕ) (locks : LockTexts) → IsOnce (PresentParts header requirements locks)
parts-once header requirements locks =
    checks-once _ _ _ (agrees-once (odd_lock header locks) _
    (finds-once _ _ _ (read-alone (file_of requirements)) (λ lines. then-once _ _ (targets-once locks header.targets) (λ targets. checks-once _ _ _ (gives-once _)))))

fit-once : (state : State) (targets : List Target) (go_on : Result State Refusal → Type 0) → IsOnce go_on → IsOnce (Fit state targets go_on)
fit-once state [] go_on on = on
fit-once state (target ∷ targets) go_on on = checks-once _ _ _ (fit-once state targets go_on on)

present-once : (header : Header) (requirements : List ℕ) (locks : LockTexts) → IsOnce (Present header requirements locks)
present-once header requirements locks = then-once _ _ (parts-once header requirements locks) (λ state. fit-once state state.targets _ (gives-once state))

-- ---- steps and states

steps-once : (header : Header) (steps number : ℕ) (bytes : List ℕ) → IsOnce (StepLines header steps number bytes)
steps-once header zero number bytes = checks-once _ _ _ (gives-once [])
steps-once header (suc steps) number bytes = finds-once _ _ _ (step-alone header bytes) (λ step. then-once _ _ (steps-once header steps (number + 1) step.1) (λ changes. gives-once (step.0 ∷ changes)))

module _ (one : AChangeLeadsToOneState) where
  lead-alone : (old : State) (change : ChangeParts) → IsAlone (Leads old change)
  lead-alone old change x y p q = one change old x y p.0 q.0

  before-once : (changes : List ChangeParts) (state : State) → IsOnce (StatesBefore changes state)
  before-once [] state = gives-once []
  before-once (change ∷ changes) state = finds-once _ _ _ (lead-alone state (inverse change)) (λ before. then-once _ _ (before-once changes before) (λ states. gives-once (states ++ before ∷ [])))

  behind-once : (number : ℕ) (changes : List ChangeParts) (state : State) → IsOnce (StatesBehind number changes state)
  behind-once number [] state = gives-once []
  behind-once number (change ∷ changes) state = finds-once _ _ _ (lead-alone state change) (λ next. then-once _ _ (behind-once (number + 1) changes next) (λ states. gives-once (next ∷ states)))

  past-once : (cursor : ℕ) (changes : List ChangeParts) (state : State) → IsOnce (PastOf cursor changes state)
  past-once cursor changes state =
      then-once _ _ (before-once (reverse (take cursor changes)) state) (λ before. then-once _ _ (behind-once (cursor + 2) (drop cursor changes) state) (λ behind. gives-once _))

  -- files stand for one history, or have one first fault
  pub opens-once : (requirements : List ℕ) (locks : LockTexts) (journal : List ℕ) → IsOnce (Opens requirements locks journal)
  opens-once requirements locks journal =
      finds-once _ _ _ (begins-alone journal)
      (λ begin. then-once _ _ (present-once begin.0 requirements locks)
      (λ state. then-once _ _ (steps-once begin.0 begin.0.steps 2 begin.1)
      (λ changes. then-once _ _ (past-once begin.0.cursor changes state) (λ past. gives-once _))))
