-- The lock files that were saved are those of the targets of the header that was saved with them.
use Rattle.std.proofs.Common.{◌≡◌, ℕ, true, false, Bool, List, [], ◌∷◌, map, Contains, Some, None, Ok, Less, refl, sym, ap, subst, inl, inr}
use Rattle.std.specs.Prelude.{◌||◌, find, not}
use Rattle.std.specs.Cmp.Lexicographic.{slice_cmp}
use Rattle.std.specs.List.{AllZip, list_any}
use Rattle.std.specs.Ordering.{nat_cmp}
use Rattle.std.specs.Str.{bytes_eq}
use Rattle.std.proofs.lemmas.Bool.{cases_Bool}
use Rattle.std.proofs.lemmas.Slice.Eq.{bytes_eq-Decides}
use Rattle.lists.specs.Rising.{rises}
use Rattle.lists.proofs.Members.{Contains-cons_cases, Contains-here, Contains-map_of, Contains-nil, Contains-there}
use Rattle.states.proofs.EntryFacts.{not-below, rises-above, rises-rest}
use Rattle.journal.specs.Values.{Target}
use Rattle.journal_format.specs.Lines.{has_target}
use Rattle.journal.specs.Locks.{LockTexts, is_kept, lock_at, lost_lock, odd_lock, stray_lock}
use Rattle.journal.specs.Tied.LocksWritten.{IsWrittenLock}
use Rattle.journal.specs.Opens.{TargetsRead}
use Rattle.journal.specs.Saved.{targets_for}
use Rattle.journal_format.specs.declared.header.Header.{Header}
use Rattle.journal_format.specs.declared.header.HeaderTarget.{HeaderTarget}

pub same-bytes : (t : List ℕ) → bytes_eq t t ≡ true
same-bytes t = (bytes_eq-Decides t t).1 refl

-- the names of targets
abbrev pub names : List Target → List (List ℕ)
names targets = map (λ t. t.name) targets

-- ---- each target's lock file is found by its name

-- each target's lock file stands in the list, and is what is found there
abbrev AreAt : LockTexts → List Target → LockTexts → Type 0
AreAt all targets locks = AllZip (λ t l. lock_at all t.name ≡ Some l.1) targets locks

other_name : (name other : List ℕ) → slice_cmp nat_cmp name other ≡ Less → bytes_eq other name ≡ false
other_name name other less = elim (cases_Bool (bytes_eq other name)) [
  | inl same ↦ absurd (not-below name (subst (λ (n : List ℕ). slice_cmp nat_cmp name n ≡ Less) ((bytes_eq-Decides other name).0 same) less))
  | inr apart ↦ apart
]

past-one : (lock : List ℕ × List ℕ) (all : LockTexts) (targets : List Target) (locks : LockTexts) → ((t : Target) → Contains targets t → bytes_eq t.name lock.0 ≡ false) → AreAt all targets locks
    → AreAt (lock ∷ all) targets locks
past-one lock all [] [] apart at = tt
past-one lock all [] (l ∷ locks) apart at = absurd at
past-one lock all (t ∷ targets) [] apart at = absurd at
past-one lock all (t ∷ targets) (l ∷ locks) apart at =
    (rw (apart t (Contains-here t targets)) at.0, past-one lock all targets locks (λ x there. apart x (Contains-there t targets x there)) at.1)

pub all-at : (targets : List Target) (locks : LockTexts) → rises (names targets) ≡ true → AllZip IsWrittenLock targets locks → AreAt locks targets locks
all-at [] [] rise written = tt
all-at [] (l ∷ locks) rise written = absurd written
all-at (t ∷ targets) [] rise written = absurd written
all-at (t ∷ targets) (l ∷ locks) rise written =
    let name = written.0.file.name in
    let here : bytes_eq t.name l.0 ≡ true = (bytes_eq-Decides t.name l.0).1 (sym name) in
    let apart : (x : Target) → Contains targets x → bytes_eq x.name l.0 ≡ false = λ x there.
    other_name l.0 x.name (subst (λ (n : List ℕ). slice_cmp nat_cmp n x.name ≡ Less) (sym name) (rises-above t.name (names targets) x.name rise (Contains-map_of (λ (y : Target). y.name) targets x there))) in
    (rw here refl, past-one l locks targets locks apart (all-at targets locks (rises-rest t.name (names targets) rise) written.1))

-- ---- no lock file is odd

none-lost : (all : LockTexts) (targets : List Target) (locks : LockTexts) → AreAt all targets locks → find (λ t. not (is_kept all t)) (targets_for targets locks) ≡ None
none-lost all [] locks at = refl
none-lost all (t ∷ targets) [] at = absurd at
none-lost all (t ∷ targets) (l ∷ locks) at = rw (at.0, same-bytes _) (none-lost all targets locks at.1)

-- whether a target of a list has this name
abbrev has : List HeaderTarget → List ℕ → Bool
has targets name = list_any (λ t. bytes_eq t.name name) targets

later : (b c : Bool) → c ≡ true → (b || c) ≡ true
later true c is = refl
later false c is = is

sooner : (b c : Bool) → b ≡ true → (b || c) ≡ true
sooner b c is = rw is refl

-- the name of a target is that of one in the header
pub name-known : (targets : List Target) (locks : LockTexts) (name : List ℕ) → AllZip IsWrittenLock targets locks → Contains (names targets) name → has (targets_for targets locks) name ≡ true
name-known [] locks name written there = absurd (Contains-nil name there)
name-known (t ∷ targets) [] name written there = absurd written
name-known (t ∷ targets) (l ∷ locks) name written there = elim (Contains-cons_cases t.name (names targets) name there) [
  | inl same ↦ sooner (bytes_eq t.name name) (has (targets_for targets locks) name) ((bytes_eq-Decides t.name name).1 same)
  | inr more ↦ later (bytes_eq t.name name) (has (targets_for targets locks) name) (name-known targets locks name written.1 more)
]

none-stray : (header : Header) (known : List (List ℕ)) (targets : List Target) (locks : LockTexts) → ((name : List ℕ) → Contains known name → has_target header name ≡ true)
    → ((name : List ℕ) → Contains (names targets) name → Contains known name) → AllZip IsWrittenLock targets locks → find (λ p. not (has_target header p.0)) locks ≡ None
none-stray header known [] [] knows from written = refl
none-stray header known [] (l ∷ locks) knows from written = absurd written
none-stray header known (t ∷ targets) [] knows from written = absurd written
none-stray header known (t ∷ targets) (l ∷ locks) knows from written =
    let here : has_target header l.0 ≡ true = subst (λ (n : List ℕ). has_target header n ≡ true) (sym written.0.file.name) (knows t.name (from t.name (Contains-here t.name (names targets)))) in
    rw here (none-stray header known targets locks knows (λ name there. from name (Contains-there t.name (names targets) name there)) written.1)

-- no lock file is odd beside a header with these targets
pub none-odd : (header : Header) (targets : List Target) (locks : LockTexts) → header.targets ≡ targets_for targets locks → rises (names targets) ≡ true → AllZip IsWrittenLock targets locks
    → odd_lock header locks ≡ None
none-odd header targets locks is rise written =
    let lost : lost_lock header locks ≡ None = rw (is, none-lost locks targets locks (all-at targets locks rise written)) refl in
    let knows : (name : List ℕ) → Contains (names targets) name → has_target header name ≡ true = λ name there. rw is (name-known targets locks name written there) in
    let stray : stray_lock header locks ≡ None = rw (none-stray header (names targets) targets locks knows (λ name there. there) written) refl in
    rw (lost, stray) refl

-- ---- they are read as the locks

read-by : (all : LockTexts) (targets : List Target) (locks : LockTexts) → AllZip IsWrittenLock targets locks → AreAt all targets locks → TargetsRead all (targets_for targets locks) (Ok targets)
read-by all [] locks written at = refl
read-by all (t ∷ targets) [] written at = absurd at
read-by all (t ∷ targets) (l ∷ locks) written at =
    inl (t, record { name = refl; environment = refl; text = l.1; there = at.0; reads = written.0.reads }, (Ok targets, read-by all targets locks written.1 at.1, refl))

pub targets-again : (targets : List Target) (locks : LockTexts) → rises (names targets) ≡ true → AllZip IsWrittenLock targets locks → TargetsRead locks (targets_for targets locks) (Ok targets)
targets-again targets locks rise written = read-by locks targets locks written (all-at targets locks rise written)

-- ---- the header's targets

-- they rise as those of the state
pub names-for : (targets : List Target) (locks : LockTexts) → AllZip IsWrittenLock targets locks → map (λ t. t.name) (targets_for targets locks) ≡ names targets
names-for [] locks written = refl
names-for (t ∷ targets) [] written = absurd written
names-for (t ∷ targets) (l ∷ locks) written = ap (λ (ns : List (List ℕ)). t.name ∷ ns) (names-for targets locks written.1)
