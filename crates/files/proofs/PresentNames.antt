-- The targets of the present state of files that open, by the names that their journal has.
use Rattle.std.proofs.Common.{◌≡◌, ◌⊎◌, ◌∙◌, ◌+◌, ◌≤◌, ◌<◌, ℕ, zero, suc, List, [], ◌∷◌, ◌++◌, Option, Some, None, Result, Ok, Err, ap, arith, drop, inl, inr, length, map, refl, reverse, subst, sym, take}
use Rattle.std.proofs.lemmas.List.{drop_all, length-append, length-reverse, length-take-le, take_all}
use Rattle.std.proofs.lemmas.Option.{slice_get_within}
use Rattle.std.specs.List.{AllByRecursion}
use Rattle.std.specs.Prelude.{slice_get}
use Rattle.pep508.specs.Requirement.{file_of}
use Rattle.sha2.specs.Sha256.{sha256}
use Rattle.changes.specs.Changes.{ChangeParts, Leads, inverse}
use Rattle.states.specs.State.{Fits}
use Rattle.states.specs.StateParts.{digest_of}
use Rattle.states.specs.declared.refusal.Refusal.TheVariants.{FilesDisagree, JournalBroken}
use Rattle.states.specs.declared.refusal.SavedFile.TheVariants.{Lock, Requirements}
use Rattle.journal.specs.Changes.{HistoryParts, parts_of}
use Rattle.journal.specs.Locks.{LockTexts, odd_lock}
use Rattle.journal.specs.Opens.{Agrees, Checks, Finds, Fit, IsAnswer, IsReadTarget, NamesEnvironment, PastOf, Present, PresentParts, StatesBefore, StatesBehind, StepLines, TargetsRead, Then}
use Rattle.journal.specs.Past.{Past, present}
use Rattle.journal.specs.Values.{Refusal, State, Target}
use Rattle.journal_format.specs.declared.header.Header.{Header}
use Rattle.journal_format.specs.declared.header.HeaderTarget.{HeaderTarget}
use Rattle.files.proofs.Answers.{agreed, checked, found, went-on}
use Rattle.files.proofs.JournalNames.{header_names}
use Rattle.files.proofs.OtherLocks.{HasHeader, with_lines, with_locks, with_state, with_targets}

abbrev names : List Target → List (List ℕ)
names targets = map (λ t. t.name) targets

-- ---- the present state

-- targets that are read have the names of the header's
read-names : (locks : LockTexts) (given : List HeaderTarget) (targets : List Target) → TargetsRead locks given (Ok targets) → names targets ≡ map (λ t. t.name) given
read-names locks [] targets read = let is : Ok targets ≡ Ok [] = read in let none : targets ≡ [] = cc in ap names none
read-names locks (one ∷ given) targets read =
    let first = found (IsReadTarget locks one) (FilesDisagree (Lock one.name)) (λ target. Then (TargetsRead locks given) (λ others. IsAnswer (target ∷ others))) targets read in
    let others = went-on (TargetsRead locks given) (λ others. IsAnswer (first.0 ∷ others)) targets first.2 in
    let is : Ok targets ≡ Ok (first.0 ∷ others.0) = others.2 in
    let whole : targets ≡ first.0 ∷ others.0 = cc in
    let behind = read-names locks given others.0 others.1 in
    ap names whole ∙ (λ i. first.1.name i ∷ behind i)

fit-same : (state : State) (targets : List Target) (fits : State) → Fit state targets (IsAnswer state) (Ok fits) → fits ≡ state
fit-same state [] fits h = let is : Ok fits ≡ Ok state = h in cc
fit-same state (t ∷ targets) fits h = fit-same state targets fits (checked (Fits state.lines (digest_of state.targets) t) (FilesDisagree (Lock t.name)) (Fit state targets (IsAnswer state)) fits h).1

-- the present state has the header's names
state-names : (header : Header) (requirements : List ℕ) (locks : LockTexts) (state : State) → Present header requirements locks (Ok state) → names state.targets ≡ header_names header
state-names header requirements locks state is =
    let parts = went-on (PresentParts header requirements locks) (λ state. Fit state state.targets (IsAnswer state)) state is in
    let digest = checked (header.requirements ≡ sha256 requirements) (FilesDisagree Requirements) (Agrees (odd_lock header locks) (with_locks requirements locks header.targets)) parts.0 parts.1 in
    let read = (agreed (odd_lock header locks) (with_locks requirements locks header.targets) parts.0 digest.1).1 in
    let lines = found (λ lines. file_of requirements ≡ Ok lines) (FilesDisagree Requirements) (with_lines locks header.targets) parts.0 read in
    let targets = went-on (TargetsRead locks header.targets) (with_targets lines.0) parts.0 lines.2 in
    let last = checked (AllByRecursion NamesEnvironment targets.0) (JournalBroken 1) (IsAnswer (record { lines = lines.0; targets = targets.0 })) parts.0 targets.2 in
    let made : Ok parts.0 ≡ Ok (record { lines = lines.0; targets = targets.0 }) = last.1 in
    let whole : parts.0 ≡ record { lines = lines.0; targets = targets.0 } = cc in
    ap (λ (s : State). names s.targets) (fit-same parts.0 parts.0.targets state parts.2 ∙ whole) ∙ read-names locks header.targets targets.0 targets.1

-- ---- its place

before-many : (changes : List ChangeParts) (state : State) (states : List State) → StatesBefore changes state (Ok states) → length states ≡ length changes
before-many [] state states h = let is : Ok states ≡ Ok [] = h in let none : states ≡ [] = cc in ap length none
before-many (change ∷ changes) state states h =
    let first = found (Leads state (inverse change)) (JournalBroken (length changes + 2)) (λ before. Then (StatesBefore changes before) (λ states. IsAnswer (states ++ before ∷ []))) states h in
    let rest = went-on (StatesBefore changes first.0) (λ states. IsAnswer (states ++ first.0 ∷ [])) states first.2 in
    let is : Ok states ≡ Ok (rest.0 ++ first.0 ∷ []) = rest.2 in
    let whole : states ≡ rest.0 ++ first.0 ∷ [] = cc in
    let many = before-many changes first.0 rest.0 rest.1 in
    let long : length states ≡ length rest.0 + 1 = ap length whole ∙ length-append rest.0 (first.0 ∷ []) in
    omega arith

get-behind : (before behind : List State) (state : State) (k : ℕ) → k ≡ length before → slice_get (before ++ state ∷ behind) k ≡ Some state
get-behind [] behind state zero is = refl
get-behind [] behind state (suc k) is = absurd (omega arith)
get-behind (s ∷ before) behind state zero is = absurd (omega arith)
get-behind (s ∷ before) behind state (suc k) is = get-behind before behind state k (omega arith)

none-behind : (number : ℕ) (changes : List ChangeParts) (state : State) (states : List State) → changes ≡ [] → StatesBehind number changes state (Ok states) → states ≡ []
none-behind number [] state states none h = let is : Ok states ≡ Ok [] = h in cc
none-behind number (change ∷ changes) state states none h = absurd (cc none)

either-order : (m n : ℕ) → (m ≤ n) ⊎ (n < m)
either-order zero n = inl (omega arith)
either-order (suc m) zero = inr (omega arith)
either-order (suc m) (suc n) = elim (either-order m n) [ inl within ↦ inl (omega arith) | inr past ↦ inr (omega arith) ]

-- where there is a present state, it is the one that was read
past-present : (cursor : ℕ) (changes : List ChangeParts) (read : State) (past : Past) (state : State) → PastOf cursor changes read (Ok past) → present past ≡ Some state → state ≡ read
past-present cursor changes read past state h now =
    let before = went-on (StatesBefore (reverse (take cursor changes)) read) (λ before. Then (StatesBehind (cursor + 2) (drop cursor changes) read) (λ behind. IsAnswer (record { states = before ++ read ∷ behind; cursor = cursor }))) past h in
    let behind = went-on (StatesBehind (cursor + 2) (drop cursor changes) read) (λ behind. IsAnswer (record { states = before.0 ++ read ∷ behind; cursor = cursor })) past before.2 in
    let is : Ok past ≡ Ok (record { states = before.0 ++ read ∷ behind.0; cursor = cursor }) = behind.2 in
    let whole : past ≡ record { states = before.0 ++ read ∷ behind.0; cursor = cursor } = cc in
    let at : slice_get (before.0 ++ read ∷ behind.0) cursor ≡ Some state = sym (ap present whole) ∙ now in
    so before.0 behind.0 at (before-many (reverse (take cursor changes)) read before.0 before.1 ∙ length-reverse (take cursor changes)) (λ none. none-behind (cursor + 2) (drop cursor changes) read behind.0 none behind.1)
  where
    so : (before behind : List State) → slice_get (before ++ read ∷ behind) cursor ≡ Some state → length before ≡ length (take cursor changes) → (drop cursor changes ≡ [] → behind ≡ []) → state ≡ read
    so before behind at many none = elim (either-order cursor (length changes)) [
      | inl within ↦
          let place : cursor ≡ length before = let long = length-take-le cursor changes within in omega arith in
          let both : Some read ≡ Some state = sym (get-behind before behind read cursor place) ∙ at in
          cc
      | inr past ↦
          let last : behind ≡ [] = none (drop_all cursor changes (omega arith)) in
          let here : slice_get (before ++ read ∷ []) cursor ≡ Some state = sym (ap (λ (b : List State). slice_get (before ++ read ∷ b) cursor) last) ∙ at in
          let below = slice_get_within (before ++ read ∷ []) cursor state here in
          let all : length (before ++ read ∷ []) ≡ length before + 1 = length-append before (read ∷ []) in
          let few : take cursor changes ≡ changes = take_all cursor changes (omega arith) in
          let same : length (take cursor changes) ≡ length changes = ap length few in
          absurd (omega arith)
    ]

-- the names of the present targets of files that open are those of their journal
pub present-names : (requirements : List ℕ) (locks : LockTexts) (journal : List ℕ) (history : HistoryParts) (a : HasHeader requirements locks journal history) (state : State) → present history.past ≡ Some state
    → names state.targets ≡ header_names a.begin.0
present-names requirements locks journal history a state now =
    let header = a.begin.0 in
    let read = went-on (Present header requirements locks) (with_state header a.begin.1) history a.opens in
    let changes = went-on (StepLines header header.steps 2 a.begin.1) (λ changes. Then (PastOf header.cursor changes read.0) (λ past. IsAnswer (parts_of past changes))) history read.2 in
    let past = went-on (PastOf header.cursor changes.0 read.0) (λ past. IsAnswer (parts_of past changes.0)) history changes.2 in
    let is : Ok history ≡ Ok (parts_of past.0 changes.0) = past.2 in
    let whole : history ≡ parts_of past.0 changes.0 = cc in
    let same : history.past ≡ past.0 = ap (λ (h : HistoryParts). h.past) whole in
    let at : present past.0 ≡ Some state = sym (ap present same) ∙ now in
    ap (λ (s : State). names s.targets) (past-present header.cursor changes.0 read.0 past.0 state past.1 at) ∙ state-names header requirements locks read.0 read.1
