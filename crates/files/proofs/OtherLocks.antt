-- Files that open also with other lock files, where these are the same.
use Rattle.std.proofs.Common.{◌≡◌, ℕ, List, [], ◌∷◌, Option, Some, None, Result, Ok, sym, ap, subst, ◌∙◌, inl, inr}
use Rattle.std.specs.List.{AllByRecursion}
use Rattle.pep508.specs.Requirement.{file_of}
use Rattle.sha2.specs.Sha256.{sha256}
use Rattle.states.specs.declared.refusal.Refusal.TheVariants.{FilesDisagree, JournalBroken}
use Rattle.states.specs.declared.refusal.SavedFile.TheVariants.{Lock, Requirements}
use Rattle.journal.specs.Values.{State, Target, Refusal}
use Rattle.journal.specs.Changes.{HistoryParts, parts_of}
use Rattle.journal.specs.Locks.{LockTexts, lock_at, odd_lock}
use Rattle.journal.specs.Opens.{Agrees, BeginsWith, Checks, Finds, Fit, IsAnswer, IsReadTarget, NamesEnvironment, Opens, PastOf, Present, PresentParts, StepLines, TargetsRead, Then}
use Rattle.journal_format.specs.Lines.{cut_line, header_of_line}
use Rattle.journal_format.specs.declared.header.Header.{Header}
use Rattle.journal_format.specs.declared.header.HeaderTarget.{HeaderTarget}
use Rattle.files.proofs.Answers.{agreed, checked, found, went-on}

-- ---- the header

one-cut : (cut : Option (List ℕ × List ℕ)) (x y : List ℕ × List ℕ) → cut ≡ Some x → cut ≡ Some y → x ≡ y
one-cut cut x y p q = let same : Some x ≡ Some y = sym p ∙ q in cc

one-read : {X E : Type 0} (read : Result X E) (x y : X) → read ≡ Ok x → read ≡ Ok y → x ≡ y
one-read read x y p q = let same : Ok x ≡ Ok y = sym p ∙ q in cc

-- a journal begins with one header
pub one-header : (journal : List ℕ) (x y : Header × List ℕ) → BeginsWith journal x → BeginsWith journal y → x ≡ y
one-header journal x y p q =
    let cuts : (p.line, x.1) ≡ (q.line, y.1) = one-cut (cut_line journal) (p.line, x.1) (q.line, y.1) p.cut q.cut in
    let lines : p.line ≡ q.line = ap (λ c. c.0) cuts in
    let behind : x.1 ≡ y.1 = ap (λ c. c.1) cuts in
    let first : x.0 ≡ y.0 = one-read (header_of_line q.line) x.0 y.0 (sym (ap header_of_line lines) ∙ p.header) q.header in
    λ i. (first i, behind i)

-- the tests behind the header, the present state, and that for an odd lock file
abbrev pub with_state : Header → List ℕ → State → Result HistoryParts Refusal → Type 0
with_state header steps state =
    Then (StepLines header header.steps 2 steps) (λ changes. Then (PastOf header.cursor changes state) (λ past. IsAnswer (parts_of past changes)))

abbrev pub with_header : List ℕ → LockTexts → Header × List ℕ → Result HistoryParts Refusal → Type 0
with_header requirements locks begin = Then (Present begin.0 requirements locks) (with_state begin.0 begin.1)

abbrev pub with_targets : List (List ℕ) → List Target → Result State Refusal → Type 0
with_targets lines targets = Checks (AllByRecursion NamesEnvironment targets) (JournalBroken 1) (IsAnswer (record { lines = lines; targets = targets }))

abbrev pub with_lines : LockTexts → List HeaderTarget → List (List ℕ) → Result State Refusal → Type 0
with_lines locks targets lines = Then (TargetsRead locks targets) (with_targets lines)

abbrev pub with_locks : List ℕ → LockTexts → List HeaderTarget → Result State Refusal → Type 0
with_locks requirements locks targets = Finds (λ lines. file_of requirements ≡ Ok lines) (FilesDisagree Requirements) (with_lines locks targets)

-- what a header tells of files that open behind it
pub record AreTold (header : Header) (requirements : List ℕ) (locks : LockTexts) : Type 0 where
  pub digest : header.requirements ≡ sha256 requirements
  pub none : odd_lock header locks ≡ None

-- the journal of files that open begins with a header, which tells of them
pub record HasHeader (requirements : List ℕ) (locks : LockTexts) (journal : List ℕ) (history : HistoryParts) : Type 0 where
  pub begin : Header × List ℕ
  pub begins : BeginsWith journal begin
  pub told : AreTold begin.0 requirements locks
  pub opens : with_header requirements locks begin (Ok history)

pub has-header : (requirements : List ℕ) (locks : LockTexts) (journal : List ℕ) (history : HistoryParts) → Opens requirements locks journal (Ok history) → HasHeader requirements locks journal history
has-header requirements locks journal history opens =
    let begin = found (BeginsWith journal) (JournalBroken 1) (with_header requirements locks) history opens in
    let header = begin.0.0 in
    let now = went-on (Present header requirements locks) (with_state header begin.0.1) history begin.2 in
    let parts = went-on (PresentParts header requirements locks) (λ state. Fit state state.targets (IsAnswer state)) now.0 now.1 in
    let digest = checked (header.requirements ≡ sha256 requirements) (FilesDisagree Requirements) (Agrees (odd_lock header locks) (with_locks requirements locks header.targets)) parts.0 parts.1 in
    record {
      begin = begin.0;
      begins = begin.1;
      told = record { digest = digest.0; none = (agreed (odd_lock header locks) (with_locks requirements locks header.targets) parts.0 digest.1).0 };
      opens = begin.2;
    }

-- ---- the same answer from other files

-- what answers so, answers so from other files
abbrev Moves : {A : Type 0} → (Result A Refusal → Type 0) → (Result A Refusal → Type 0) → Type 0
Moves {A} From To = (answer : Result A Refusal) → From answer → To answer

checks-move : {A : Type 0} (fact : Type 0) (refusal : Refusal) (from to : Result A Refusal → Type 0) → Moves from to → Moves (Checks fact refusal from) (Checks fact refusal to)
checks-move fact refusal from to move answer (inl h) = inl (h.0, move answer h.1)
checks-move fact refusal from to move answer (inr h) = inr h

finds-move : {X A : Type 0} (Is Was : X → Type 0) (refusal : Refusal) (from to : X → Result A Refusal → Type 0) → ((x : X) → Was x → Is x) → ((x : X) → Is x → Was x) → ((x : X) → Moves (from x) (to x))
    → Moves (Finds Was refusal from) (Finds Is refusal to)
finds-move Is Was refusal from to there back move answer (inl h) = inl (h.0, there h.0 h.1, move h.0 answer h.2)
finds-move Is Was refusal from to there back move answer (inr h) = inr (λ x is. h.0 x (back x is), h.1)

then-move : {X A : Type 0} (From To : Result X Refusal → Type 0) (go_on : X → Result A Refusal → Type 0) → Moves From To → Moves (Then From go_on) (Then To go_on)
then-move From To go_on move answer h = (h.0, move h.0 h.1, h.2)

agrees-move : {A : Type 0} (odd other : Option (List ℕ)) (from to : Result A Refusal → Type 0) → odd ≡ None → other ≡ None → Moves from to → Moves (Agrees odd from) (Agrees other to)
agrees-move odd other from to none none_of_other move answer h =
    subst (λ (o : Option (List ℕ)). Agrees o to answer) (sym none_of_other) (move answer (subst (λ (o : Option (List ℕ)). Agrees o from answer) none h))

-- the lock files of these targets are the same
abbrev pub AreSameLocks : LockTexts → LockTexts → List HeaderTarget → Type 0
AreSameLocks locks more targets = AllByRecursion (λ t. lock_at locks t.name ≡ lock_at more t.name) targets

read-move : (locks more : LockTexts) (given : HeaderTarget) (target : Target) → lock_at locks given.name ≡ lock_at more given.name → IsReadTarget more given target → IsReadTarget locks given target
read-move locks more given target same is = record { name = is.name; environment = is.environment; text = is.text; there = same ∙ is.there; reads = is.reads }

targets-move : (locks more : LockTexts) (targets : List HeaderTarget) → AreSameLocks locks more targets → Moves (TargetsRead more targets) (TargetsRead locks targets)
targets-move locks more [] same answer h = h
targets-move locks more (given ∷ others) same answer h =
    finds-move (IsReadTarget locks given) (IsReadTarget more given) (FilesDisagree (Lock given.name))
    (λ target. Then (TargetsRead more others) (λ targets. IsAnswer (target ∷ targets))) (λ target. Then (TargetsRead locks others) (λ targets. IsAnswer (target ∷ targets)))
    (λ target. read-move locks more given target same.0) (λ target. read-move more locks given target (sym same.0))
    (λ target. then-move (TargetsRead more others) (TargetsRead locks others) (λ targets. IsAnswer (target ∷ targets)) (targets-move locks more others same.1)) answer h

present-move : (header : Header) (requirements : List ℕ) (locks more : LockTexts) → odd_lock header locks ≡ None → odd_lock header more ≡ None → AreSameLocks locks more header.targets
    → Moves (Present header requirements more) (Present header requirements locks)
present-move header requirements locks more none none_of_more same =
    let targets = header.targets in
    then-move (PresentParts header requirements more) (PresentParts header requirements locks) (λ state. Fit state state.targets (IsAnswer state))
    (checks-move (header.requirements ≡ sha256 requirements) (FilesDisagree Requirements) (Agrees (odd_lock header more) (with_locks requirements more targets)) (Agrees (odd_lock header locks) (with_locks requirements locks targets))
    (agrees-move (odd_lock header more) (odd_lock header locks) (with_locks requirements more targets) (with_locks requirements locks targets) none_of_more none
    (finds-move (λ lines. file_of requirements ≡ Ok lines) (λ lines. file_of requirements ≡ Ok lines) (FilesDisagree Requirements) (with_lines more targets) (with_lines locks targets) (λ lines is. is) (λ lines is. is)
    (λ lines. then-move (TargetsRead more targets) (TargetsRead locks targets) (with_targets lines) (targets-move locks more targets same)))))

-- files open as others with the same locks do
pub opens-moved : (requirements : List ℕ) (locks more : LockTexts) (journal : List ℕ) (history : HistoryParts) (b : HasHeader requirements more journal history) → odd_lock b.begin.0 locks ≡ None → AreSameLocks locks more b.begin.0.targets
    → Opens requirements locks journal (Ok history)
opens-moved requirements locks more journal history b none same =
    let header = b.begin.0 in
    let again : with_header requirements locks b.begin (Ok history) =
    then-move (Present header requirements more) (Present header requirements locks) (with_state header b.begin.1) (present-move header requirements locks more none b.told.none same) (Ok history) b.opens in
    inl (b.begin, b.begins, again)
