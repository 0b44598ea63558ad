-- The locks of a history that was saved, by the names of their targets.
use Rattle.std.proofs.Common.{◌≡◌, ℕ, true, false, List, [], ◌∷◌, map, Contains, Some, Result, Ok, Less, refl, ap, subst, ◌∙◌, inl, inr}
use Rattle.std.proofs.lemmas.Bool.{cases_Bool}
use Rattle.std.proofs.lemmas.Slice.Eq.{bytes_eq-Decides}
use Rattle.std.specs.Cmp.Lexicographic.{slice_cmp}
use Rattle.std.specs.List.{AllByRecursion, AllZip}
use Rattle.std.specs.Ordering.{nat_cmp}
use Rattle.std.specs.Str.{bytes_eq}
use Rattle.lists.specs.Rising.{rises}
use Rattle.lists.proofs.Members.{Contains-cons_cases, Contains-map_of, Contains-nil}
use Rattle.changes.specs.Changes.{ChangeParts}
use Rattle.states.proofs.EntryFacts.{not-below, rises-above, rises-rest}
use Rattle.states.specs.declared.refusal.Refusal.TheVariants.{FilesDisagree, JournalBroken}
use Rattle.states.specs.declared.refusal.SavedFile.TheVariants.{Lock}
use Rattle.journal.specs.Values.{Target, Refusal}
use Rattle.journal.specs.Changes.{HistoryParts}
use Rattle.journal.specs.Locks.{LockTexts, lock_at, odd_lock}
use Rattle.journal.specs.Opens.{Agrees, BeginsWith, Checks, IsAnswer, IsReadTarget, NamesEnvironment, Opens, StepLines, TargetsRead, Then, ToldBy}
use Rattle.journal.specs.Saved.{IsLockFile, IsSaved}
use Rattle.journal.specs.declared.saved.Saved.{Saved}
use Rattle.journal.specs.declared.told.Told.{Told}
use Rattle.journal.proofs.WhatIsTold.{what-opens}
use Rattle.journal_format.specs.Lines.{are_targets}
use Rattle.journal_format.specs.declared.header.Header.{Header}
use Rattle.journal_format.specs.declared.header.HeaderTarget.{HeaderTarget}
use Rattle.journal_format.proofs.HeaderFacts.{header-read}
use Rattle.files.proofs.Answers.{agreed, checked, found, went-on}

-- the names of targets, and of lock files
abbrev names : List Target → List (List ℕ)
names targets = map (λ t. t.name) targets

abbrev pub lock_names : LockTexts → List (List ℕ)
lock_names locks = map (λ lock. lock.0) locks

-- ---- the targets that a journal tells of

-- targets that are read have the names of the header's
read-names : (locks : LockTexts) (given : List HeaderTarget) (targets : List Target) → TargetsRead locks given (Ok targets) → names targets ≡ map (λ t. t.name) given
read-names locks [] targets read = let is : Ok targets ≡ Ok [] = read in let none : targets ≡ [] = cc in ap names none
read-names locks (one ∷ given) targets read =
    let first = found (IsReadTarget locks one) (FilesDisagree (Lock one.name)) (λ target. Then (TargetsRead locks given) (λ others. IsAnswer (target ∷ others))) targets read in
    let others = went-on (TargetsRead locks given) (λ others. IsAnswer (first.0 ∷ others)) targets first.2 in
    let is : Ok targets ≡ Ok (first.0 ∷ others.0) = others.2 in
    let whole : targets ≡ first.0 ∷ others.0 = cc in
    let behind = read-names locks given others.0 others.1 in
    ap names whole ∙ (λ i. first.1.name i ∷ behind i)

header-names : (targets : List HeaderTarget) → are_targets targets ≡ true → rises (map (λ t. t.name) targets) ≡ true
header-names [] are = absurd (cc are)
header-names (t ∷ targets) are = are

names-rise : (locks : LockTexts) (given : List HeaderTarget) (told targets : List Target) → told ≡ targets → TargetsRead locks given (Ok targets) → are_targets given ≡ true → rises (names told) ≡ true
names-rise locks given told targets same read are =
    let named : names told ≡ map (λ t. t.name) given = ap names same ∙ read-names locks given targets read in
    ap rises named ∙ header-names given are

told-targets : (told from : Told) → IsAnswer from (Ok told) → told.targets ≡ from.targets
told-targets told from is = let same : Ok told ≡ Ok from = is in let whole : told ≡ from = cc in ap (λ (t : Told). t.targets) whole

abbrev with_changes : Header → List Target → List ChangeParts → Result Told Refusal → Type 0
with_changes header targets changes = IsAnswer (record { cursor = header.cursor; changes = changes; targets = targets })

abbrev with_targets : Header → List ℕ → List Target → Result Told Refusal → Type 0
with_targets header steps targets =
    Checks (AllByRecursion NamesEnvironment targets) (JournalBroken 1) (Then (StepLines header header.steps 2 steps) (with_changes header targets))

abbrev with_locks : LockTexts → Header → List ℕ → Result Told Refusal → Type 0
with_locks locks header steps = Then (TargetsRead locks header.targets) (with_targets header steps)

-- the names of the targets that are told rise
told-rise : (locks : LockTexts) (journal : List ℕ) (told : Told) → ToldBy locks journal (Ok told) → rises (names told.targets) ≡ true
told-rise locks journal told h =
    let begin = found (BeginsWith journal) (JournalBroken 1) (λ begin. Agrees (odd_lock begin.0 locks) (with_locks locks begin.0 begin.1)) told h in
    let header = begin.0.0 in
    let read = agreed (odd_lock header locks) (with_locks locks header begin.0.1) told begin.2 in
    let targets = went-on (TargetsRead locks header.targets) (with_targets header begin.0.1) told read.1 in
    let steps = checked (AllByRecursion NamesEnvironment targets.0) (JournalBroken 1) (Then (StepLines header header.steps 2 begin.0.1) (with_changes header targets.0)) told targets.2 in
    let changes = went-on (StepLines header header.steps 2 begin.0.1) (with_changes header targets.0) told steps.1 in
    names-rise locks header.targets told.targets targets.0 (told-targets told (record { cursor = header.cursor; changes = changes.0; targets = targets.0 }) changes.2) targets.1 (header-read begin.1.line header begin.1.header).targets

-- ---- the locks that were saved

saved-names : (targets : List Target) (locks : LockTexts) → AllZip IsLockFile targets locks → lock_names locks ≡ names targets
saved-names [] [] are = refl
saved-names [] (lock ∷ locks) are = absurd are
saved-names (t ∷ targets) [] are = absurd are
saved-names (t ∷ targets) (lock ∷ locks) are = let behind = saved-names targets locks are.1 in λ i. are.0.name i ∷ behind i

-- the names of the locks rise
pub saved-rise : (history : HistoryParts) (saved : Saved) → IsSaved history saved → Opens saved.requirements saved.locks.entries saved.journal (Ok history) → rises (lock_names saved.locks.entries) ≡ true
saved-rise history saved is opens =
    let told = what-opens saved.requirements saved.locks.entries saved.journal history is.state opens is.state_is in
    ap rises (saved-names is.state.targets saved.locks.entries is.locks)
    ∙ told-rise saved.locks.entries saved.journal (record { cursor = history.past.cursor; changes = history.changes; targets = is.state.targets }) told

other-name : (name other : List ℕ) → slice_cmp nat_cmp name other ≡ Less → bytes_eq other name ≡ false
other-name name other less = elim (cases_Bool (bytes_eq other name)) [
  | inl same ↦ absurd (not-below name (subst (λ (n : List ℕ). slice_cmp nat_cmp name n ≡ Less) ((bytes_eq-Decides other name).0 same) less))
  | inr apart ↦ apart
]

-- where names rise, each lock is what is found under its name
pub lock-found : (locks : LockTexts) (lock : List ℕ × List ℕ) → rises (lock_names locks) ≡ true → Contains locks lock → lock_at locks lock.0 ≡ Some lock.1
lock-found [] lock rise there = absurd (Contains-nil lock there)
lock-found (first ∷ locks) lock rise there = elim (Contains-cons_cases first locks lock there) [
  | inl same ↦ subst (λ (l : List ℕ × List ℕ). lock_at (first ∷ locks) l.0 ≡ Some l.1) same (rw ((bytes_eq-Decides first.0 first.0).1 refl) refl)
  | inr more ↦
      let apart : bytes_eq lock.0 first.0 ≡ false = other-name first.0 lock.0 (rises-above first.0 (lock_names locks) lock.0 rise (Contains-map_of (λ (l : List ℕ × List ℕ). l.0) locks lock more)) in
      rw apart (lock-found locks lock (rises-rest first.0 (lock_names locks) rise) more)
]
