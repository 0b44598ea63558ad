-- Files that stand for a history open as it, where the locks are those that the journal names.
use Rattle.std.proofs.Common.{◌≡◌, ◌∙◌, ℕ, Bool, true, false, List, [], ◌∷◌, Option, Some, None, Ok, ap, is_some, refl, subst, sym, true≢false}
use Rattle.std.proofs.lemmas.Bool.{or_left, or_right}
use Rattle.std.proofs.lemmas.Slice.Eq.{bytes_eq-Decides}
use Rattle.std.specs.List.{AllByRecursion}
use Rattle.std.specs.Option.{option_map_or}
use Rattle.std.specs.Prelude.{find, not}
use Rattle.std.specs.Str.{bytes_eq}
use Rattle.sha2.specs.Sha256.{sha256}
use Rattle.folder.specs.Held.{Held}
use Rattle.journal.specs.Changes.{HistoryParts}
use Rattle.journal.specs.Locks.{LockTexts, is_kept, lock_at, lost_lock, odd_lock, stray_lock}
use Rattle.journal.specs.Opens.{Opens}
use Rattle.journal_format.specs.Lines.{has_target}
use Rattle.journal_format.specs.declared.header.Header.{Header}
use Rattle.journal_format.specs.declared.header.HeaderTarget.{HeaderTarget}
use Rattle.files.specs.JournalLocks.{AreOfJournal, AreOneByName, HaveNames}
use Rattle.files.specs.Places.{AreInPlace, FileBytes, StandsFor}
use Rattle.files.proofs.JournalNames.{among-targets, have-names, named-by, header_names}
use Rattle.files.proofs.KeptLocks.{HasItsLock, all-kept}
use Rattle.files.proofs.NamedLocks.{found_or}
use Rattle.files.proofs.OneInPlace.{one-by_name, one-journal, one-requirements}
use Rattle.files.proofs.OtherLocks.{AreSameLocks, has-header, opens-moved}

-- ---- the locks are the same

one-option : {X : Type 0} (a b : Option X) → is_some a ≡ is_some b → ((x y : X) → a ≡ Some x → b ≡ Some y → x ≡ y) → a ≡ b
one-option None None is one = refl
one-option None (Some y) is one = absurd (true≢false (sym is))
one-option (Some x) None is one = absurd (true≢false is)
one-option (Some x) (Some y) is one = ap Some (one x y refl refl)

same-of_targets : (locks more : LockTexts) (targets : List HeaderTarget) → ((name : List ℕ) → lock_at locks name ≡ lock_at more name) → AreSameLocks locks more targets
same-of_targets locks more [] same = tt
same-of_targets locks more (t ∷ targets) same = (same t.name, same-of_targets locks more targets same)

same-locks : (locks more : LockTexts) (names : List (List ℕ)) (targets : List HeaderTarget) → AreOneByName locks more → HaveNames locks names → HaveNames more names → AreSameLocks locks more targets
same-locks locks more names targets one have have_too = same-of_targets locks more targets (λ name. one-option (lock_at locks name) (lock_at more name) (have name ∙ sym (have_too name)) (one name))

-- ---- nothing is odd

none-found : {X : Type 0} (test : X → Bool) (xs : List X) → AllByRecursion (λ x. test x ≡ false) xs → find test xs ≡ None
none-found test [] all = refl
none-found test (x ∷ xs) all = rw all.0 (none-found test xs all.1)

-- the lock files of targets have their digests where they are those of others that have
still-kept : (locks more : LockTexts) (targets : List HeaderTarget) → AreSameLocks more locks targets → AllByRecursion (HasItsLock locks) targets → AllByRecursion (λ t. not (is_kept more t) ≡ false) targets
still-kept locks more [] same kept = tt
still-kept locks more (t ∷ targets) same kept =
    let there : lock_at more t.name ≡ Some kept.0.text = same.0 ∙ kept.0.there in
    let digest : bytes_eq (sha256 kept.0.text) t.lock ≡ true = (bytes_eq-Decides (sha256 kept.0.text) t.lock).1 kept.0.digest in
    let is : is_kept more t ≡ true = ap (λ (o : Option (List ℕ)). option_map_or (λ text. bytes_eq (sha256 text) t.lock) o false) there ∙ digest in
    (ap (λ (b : Bool). not b) is, still-kept locks more targets same.1 kept.1)

each-known : (header : Header) (locks : LockTexts) → ((name : List ℕ) → is_some (lock_at locks name) ≡ true → has_target header name ≡ true) → AllByRecursion (λ l. not (has_target header l.0) ≡ false) locks
each-known header [] known = tt
each-known header (lock ∷ locks) known =
    let here : is_some (lock_at (lock ∷ locks) lock.0) ≡ true =
    found_or (bytes_eq lock.0 lock.0) lock.1 (lock_at locks lock.0) ∙ or_left (bytes_eq lock.0 lock.0) (is_some (lock_at locks lock.0)) ((bytes_eq-Decides lock.0 lock.0).1 refl) in
    let later : (name : List ℕ) → is_some (lock_at locks name) ≡ true → is_some (lock_at (lock ∷ locks) name) ≡ true =
    λ name there. found_or (bytes_eq name lock.0) lock.1 (lock_at locks name) ∙ or_right (bytes_eq name lock.0) (is_some (lock_at locks name)) there in
    (ap (λ (b : Bool). not b) (known lock.0 here), each-known header locks (λ name there. known name (later name there)))

-- where locks are there of a header's names, each is of a target of it
pub none-stray : (header : Header) (locks : LockTexts) → HaveNames locks (header_names header) → stray_lock header locks ≡ None
none-stray header locks have =
    let known : (name : List ℕ) → is_some (lock_at locks name) ≡ true → has_target header name ≡ true = λ name there. sym (among-targets header.targets name) ∙ sym (have name) ∙ there in
    rw (none-found (λ p. not (has_target header p.0)) locks (each-known header locks known)) refl

none-odd : (header : Header) (locks more : LockTexts) → AreSameLocks more locks header.targets → AllByRecursion (HasItsLock locks) header.targets → HaveNames more (header_names header) → odd_lock header more ≡ None
none-odd header locks more same kept have =
    let lost : lost_lock header more ≡ None = rw (none-found (λ t. not (is_kept more t)) header.targets (still-kept locks more header.targets same kept)) refl in
    let stray : stray_lock header more ≡ None = none-stray header more have in
    rw (lost, stray) refl

-- ---- they open

pub opens-as_it : (held : Held) (history : HistoryParts) (files : FileBytes) → StandsFor held history → AreInPlace held files → AreOfJournal files.journal files.locks → Opens files.requirements files.locks files.journal (Ok history)
opens-as_it held history files stands are of_journal =
    let locks = stands.files.locks in
    let opens : Opens files.requirements locks files.journal (Ok history) =
    subst (λ (r : List ℕ). Opens r locks files.journal (Ok history)) (one-requirements held stands.files files stands.places are)
    (subst (λ (j : List ℕ). Opens stands.files.requirements locks j (Ok history)) (one-journal held stands.files files stands.places are) stands.opens) in
    let a = has-header files.requirements locks files.journal history opens in
    let header = a.begin.0 in
    let have : HaveNames files.locks (header_names header) = subst (HaveNames files.locks) (named-by files.journal of_journal.names a.begin of_journal.named a.begins) of_journal.have in
    let same = same-locks files.locks locks (header_names header) header.targets (one-by_name held files stands.files are stands.places) have (have-names header locks a.told.none) in
    opens-moved files.requirements files.locks locks files.journal history a (none-odd header locks files.locks same (all-kept header locks a.told.none) have) same
