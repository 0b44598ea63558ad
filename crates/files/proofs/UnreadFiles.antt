-- Why the files of a history aren't read.
use Rattle.std.proofs.Common.{◌≡◌, ◌∙◌, ℕ, Bool, true, false, List, [], ◌∷◌, Option, Some, None, Result, Ok, Err, IfErr, IfSome, ap, inl, inr, is_some, refl, subst, sym, true≢false}
use Rattle.folder.specs.Held.{Held}
use Rattle.inputs.specs.declared.fault.Fault.{Fault}
use Rattle.inputs.specs.declared.fault.Fault.TheVariants.{OutOfMemory}
use Rattle.inputs.specs.declared.input_files.InputFile.{InputFile}
use Rattle.inputs.specs.declared.input_files.InputFile.TheVariants.{Requirements, Lock, Journal}
use Rattle.journal.specs.Locks.{LockTexts, lock_at}
use Rattle.files.specs.Beside.{files_of, has}
use Rattle.files.specs.JournalLocks.{Names}
use Rattle.files.specs.Places.{AreUnread, IsUnread, LacksLock, NoFilesStand, standing}
use Rattle.files.specs.Repair.{NoneStands}
use Rattle.files.specs.TargetLocks.{is_among}
use Rattle.files.specs.declared.beside.Beside.{Beside}
use Rattle.files.specs.declared.saved_files.SavedFiles.{SavedFiles}
use Rattle.files.proofs.HeldFiles.{held_also}
use Rattle.files.proofs.JournalNames.{named-once, opens-named}
use Rattle.files.proofs.NamedLocks.{HaveNamesWith, left-among}
use Rattle.files.proofs.OneInPlace.{lock-stands, one-text}
use Rattle.files.proofs.StandingFiles.{has-none, stand_same}

-- where memory was wanted, no file is told
pub unread_memory : (held : Option Held) (may_fail : Type 0) (Is : Held → Type 0) (fault : Fault) → fault ≡ OutOfMemory → AreUnread held may_fail Is fault
unread_memory held may_fail Is fault memory = inl memory

-- a file that isn't there
pub unread_file : (held : Option Held) (may_fail : Type 0) (Is : Held → Type 0) (is_beside : Bool) (file : InputFile) (fault : Fault) → ((h : Held) → standing is_beside h file ≡ None → Is h) → IsUnread held may_fail is_beside file fault
    → AreUnread held may_fail Is fault
unread_file held may_fail Is is_beside file fault so (inl memory) = inl memory
unread_file held may_fail Is is_beside file fault so (inr (why, inl fails)) = inr (inl fails)
unread_file held may_fail Is is_beside file fault so (inr (why, inr none)) = inr (inr (held_also held (λ h. standing is_beside h file ≡ None) Is so none))

-- what leads from one thing that is held to another
pub unread_also : (held : Option Held) (may_fail : Type 0) (P Q : Held → Type 0) (fault : Fault) → ((h : Held) → P h → Q h) → AreUnread held may_fail P fault → AreUnread held may_fail Q fault
unread_also held may_fail P Q fault so (inl memory) = inl memory
unread_also held may_fail P Q fault so (inr (inl fails)) = inr (inl fails)
unread_also held may_fail P Q fault so (inr (inr is)) = inr (inr (held_also held P Q so is))

-- ---- a lock that isn't read

-- a lock of a name that is left isn't there
pub unread_name : (held : Option Held) (may_fail : Type 0) (is_beside : InputFile → Bool) (locks : LockTexts) (name copy : List ℕ) (items left names : List (List ℕ)) (fault told : Fault) → told ≡ fault → copy ≡ name → items ≡ name ∷ left
    → HaveNamesWith locks items names → IsUnread held may_fail (is_beside (Lock copy)) (Lock copy) fault → AreUnread held may_fail (LacksLock is_beside names) told
unread_name held may_fail is_beside locks name copy items left names fault told as_fault same items_are have unread =
    let among : is_among names copy ≡ true = subst (λ (n : List ℕ). is_among names n ≡ true) (sym same) (left-among locks name left names (subst (λ (l : List (List ℕ)). HaveNamesWith locks l names) items_are have)) in
    subst (AreUnread held may_fail (LacksLock is_beside names)) (sym as_fault) (unread_file held may_fail (LacksLock is_beside names) (is_beside (Lock copy)) (Lock copy) fault (λ h none. (copy, among, none)) unread)

-- ---- what isn't there

some-text : (found : Option (List ℕ)) (text : List ℕ) → found ≡ None → found ≡ Some text → ⊥
some-text found text none some = let both : None ≡ Some text = sym none ∙ some in cc

pub no-requirements : (is_beside : InputFile → Bool) (h : Held) → standing (is_beside Requirements) h Requirements ≡ None → NoFilesStand is_beside h
no-requirements is_beside h none files stand of_journal = some-text (standing (is_beside Requirements) h Requirements) files.requirements none stand.requirements

pub no-journal : (is_beside : InputFile → Bool) (h : Held) → standing (is_beside Journal) h Journal ≡ None → NoFilesStand is_beside h
no-journal is_beside h none files stand of_journal = some-text (standing (is_beside Journal) h Journal) files.journal none stand.journal

found-text : (found : Option (List ℕ)) → is_some found ≡ true → (text : List ℕ) × (found ≡ Some text)
found-text None none = absurd (true≢false (sym none))
found-text (Some text) is = (text, refl)

-- a lock that the journal names and that isn't there
no-lock : (is_beside : InputFile → Bool) (h : Held) (journal : List ℕ) (names : List (List ℕ)) → standing (is_beside Journal) h Journal ≡ Some journal → Names journal names → LacksLock is_beside names h → NoFilesStand is_beside h
no-lock is_beside h journal names there named lacks files stand of_journal =
    let name = lacks.0 in
    let same : files.journal ≡ journal = one-text (standing (is_beside Journal) h Journal) files.journal journal stand.journal there in
    let one : of_journal.names ≡ names = named-once journal of_journal.names names (subst (λ (j : List ℕ). Names j of_journal.names) same of_journal.named) named in
    let text = found-text (lock_at files.locks name) (of_journal.have name ∙ ap (λ (n : List (List ℕ)). is_among n name) one ∙ lacks.1) in
    some-text (standing (is_beside (Lock name)) h (Lock name)) text.0 lacks.2 (lock-stands is_beside h files.locks name text.0 stand.locks text.1)

-- the same of a journal that was read
pub unread_lock : (held : Option Held) (may_fail : Type 0) (is_beside : InputFile → Bool) (journal : List ℕ) (names : List (List ℕ)) (fault : Fault) → IfSome held (λ h. standing (is_beside Journal) h Journal ≡ Some journal)
    → Names journal names → AreUnread held may_fail (LacksLock is_beside names) fault → AreUnread held may_fail (NoFilesStand is_beside) fault
unread_lock held may_fail is_beside journal names fault there named (inl memory) = inl memory
unread_lock held may_fail is_beside journal names fault there named (inr (inl fails)) = inr (inl fails)
unread_lock None may_fail is_beside journal names fault there named (inr (inr lacks)) = inr (inr tt)
unread_lock (Some h) may_fail is_beside journal names fault there named (inr (inr lacks)) = inr (inr (no-lock is_beside h journal names there named lacks))

-- ---- files in their places

-- where no files stand in their places with the locks that their journal names, they stand for no history there
for-none : (beside : Beside) (h : Held) → files_of beside ≡ [] → NoFilesStand (has beside) h → NoneStands h
for-none beside h none lack history stands =
    lack stands.files (stand_same (λ file. false) (has beside) h stands.files (λ file. sym (has-none beside none file)) stands.places)
    (opens-named stands.files.requirements stands.files.locks stands.files.journal history stands.opens)

-- files that aren't read in their places
pub unread_in_place : (held : Option Held) (may_fail : Type 0) (beside : Beside) (result : Result SavedFiles Fault) → files_of beside ≡ [] → IfErr result (AreUnread held may_fail (NoFilesStand (has beside)))
    → IfErr result (AreUnread held may_fail NoneStands)
unread_in_place held may_fail beside (Ok files) none unread = tt
unread_in_place held may_fail beside (Err fault) none unread = unread_also held may_fail (NoFilesStand (has beside)) NoneStands fault (λ h. for-none beside h none) unread
