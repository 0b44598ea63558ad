-- The names of locks that a journal has.
use Rattle.std.proofs.Common.{◌≡◌, ◌∙◌, ◌||◌, ℕ, List, [], ◌∷◌, Bool, true, false, Option, Some, None, Ok, Err, ap, inl, inr, is_some, map, refl, subst, sym, true≢false}
use Rattle.std.proofs.lemmas.Bool.{cases_Bool}
use Rattle.std.proofs.lemmas.List.Elements.{All-contains, All-from_recursion}
use Rattle.std.proofs.lemmas.Map.Views.{Contains-from_lookup}
use Rattle.std.proofs.lemmas.Slice.Eq.{bytes_eq-Decides}
use Rattle.std.specs.List.{AllByRecursion, list_any}
use Rattle.std.specs.Str.{bytes_eq}
use Rattle.states.specs.declared.refusal.Refusal.TheVariants.{JournalBroken}
use Rattle.journal.specs.Changes.{HistoryParts}
use Rattle.journal.specs.Locks.{LockTexts, lock_at, odd_lock}
use Rattle.journal.specs.Opens.{BeginsWith, IsAnswer, NamesTargets, Opens}
use Rattle.journal_format.specs.Lines.{has_target}
use Rattle.journal_format.specs.declared.header.Header.{Header}
use Rattle.journal_format.specs.declared.header.HeaderTarget.{HeaderTarget}
use Rattle.files.specs.JournalLocks.{AreOfJournal, HaveNames, Names}
use Rattle.files.specs.TargetLocks.{is_among}
use Rattle.files.proofs.Answers.{found}
use Rattle.files.proofs.KeptLocks.{HasItsLock, all-kept, none-stray}
use Rattle.files.proofs.OtherLocks.{HasHeader, has-header, one-header}

-- the names of a header's targets
abbrev pub header_names : Header → List (List ℕ)
header_names header = map (λ t. t.name) header.targets

begins-so : (journal : List ℕ) (names : List (List ℕ)) → NamesTargets journal (Ok names) → (begin : Header × List ℕ) × BeginsWith journal begin × (names ≡ header_names begin.0)
begins-so journal names are =
    let first = found (BeginsWith journal) (JournalBroken 1) (λ b. IsAnswer (header_names b.0)) names are in
    let is : Ok names ≡ Ok (header_names first.0.0) = first.2 in (first.0, first.1, cc)

not-broken : (journal : List ℕ) (line : ℕ) (begin : Header × List ℕ) → BeginsWith journal begin → NamesTargets journal (Err (JournalBroken line)) → ⊥
not-broken journal line begin begins (inl other) = let is : Err (JournalBroken line) ≡ Ok (header_names other.0.0) = other.2 in cc
not-broken journal line begin begins (inr none) = none.0 begin begins

-- a journal that begins with a header has its names
pub named-by : (journal : List ℕ) (names : List (List ℕ)) (begin : Header × List ℕ) → Names journal names → BeginsWith journal begin → names ≡ header_names begin.0
named-by journal names begin (inl are) begins =
    let first = begins-so journal names are in first.2 ∙ ap (λ (b : Header × List ℕ). header_names b.0) (one-header journal first.0 begin first.1 begins)
named-by journal names begin (inr broken) begins = absurd (not-broken journal broken.1 begin begins broken.2)

-- a journal names one list of targets
pub named-once : (journal : List ℕ) (one other : List (List ℕ)) → Names journal one → Names journal other → one ≡ other
named-once journal one other (inl are) again = let first = begins-so journal one are in named-by journal one first.0 (inl are) first.1 ∙ sym (named-by journal other first.0 again first.1)
named-once journal one other (inr broken) (inl are) =
    let first = begins-so journal other are in named-by journal one first.0 (inr broken) first.1 ∙ sym (named-by journal other first.0 (inl are) first.1)
named-once journal one other (inr broken) (inr again) = broken.0 ∙ sym again.0

-- ---- the locks of files that open

pub among-targets : (targets : List HeaderTarget) (name : List ℕ) → is_among (map (λ t. t.name) targets) name ≡ list_any (λ t. bytes_eq t.name name) targets
among-targets [] name = refl
among-targets (t ∷ targets) name = ap (λ (b : Bool). bytes_eq t.name name || b) (among-targets targets name)

target-kept : (locks : LockTexts) (targets : List HeaderTarget) (name : List ℕ) → AllByRecursion (HasItsLock locks) targets → list_any (λ t. bytes_eq t.name name) targets ≡ true → is_some (lock_at locks name) ≡ true
target-kept locks [] name kept any = absurd (true≢false (sym any))
target-kept locks (t ∷ targets) name kept any = elim (cases_Bool (bytes_eq t.name name)) [
  | inl same ↦ ap (λ (o : Option (List ℕ)). is_some o) (subst (λ (n : List ℕ). lock_at locks n ≡ Some kept.0.text) ((bytes_eq-Decides t.name name).0 same) kept.0.there)
  | inr other ↦ target-kept locks targets name kept.1 (rw other at any)
]

pub some-there : {X : Type 0} (o : Option X) → is_some o ≡ true → (x : X) × (o ≡ Some x)
some-there None none = absurd (true≢false (sym none))
some-there (Some x) is = (x, refl)

lock-known : (header : Header) (locks : LockTexts) (name : List ℕ) → AllByRecursion (λ lock. has_target header lock.0 ≡ true) locks → is_some (lock_at locks name) ≡ true → has_target header name ≡ true
lock-known header locks name known is =
    let text = some-there (lock_at locks name) is in
    All-contains (λ (lock : List ℕ × List ℕ). has_target header lock.0 ≡ true) locks (name, text.0)
    (All-from_recursion (λ (lock : List ℕ × List ℕ). has_target header lock.0 ≡ true) locks known)
    (Contains-from_lookup (λ x y. (bytes_eq-Decides x y).0) name text.0 locks text.1)

agree : (a b : Bool) → (a ≡ true → b ≡ true) → (b ≡ true → a ≡ true) → a ≡ b
agree true b there back = sym (there refl)
agree false true there back = back refl
agree false false there back = refl

-- where no lock is odd, the locks are those of the header's targets
pub have-names : (header : Header) (locks : LockTexts) → odd_lock header locks ≡ None → HaveNames locks (header_names header)
have-names header locks none name =
    agree (is_some (lock_at locks name)) (is_among (header_names header) name)
    (λ there. among-targets header.targets name ∙ lock-known header locks name (none-stray header locks none) there)
    (λ among. target-kept locks header.targets name (all-kept header locks none) (sym (among-targets header.targets name) ∙ among))

-- files that open have the locks that their journal names
pub opens-named : (requirements : List ℕ) (locks : LockTexts) (journal : List ℕ) (history : HistoryParts) → Opens requirements locks journal (Ok history) → AreOfJournal journal locks
opens-named requirements locks journal history opens =
    let a : HasHeader requirements locks journal history = has-header requirements locks journal history opens in
    record { names = header_names a.begin.0; named = inl (inl (a.begin, a.begins, refl)); have = have-names a.begin.0 locks a.told.none }
