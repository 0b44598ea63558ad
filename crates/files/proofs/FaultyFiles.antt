-- Why files aren't read or don't open, and what is so unless a read may fail.
use Rattle.std.proofs.Common.{◌≡◌, ◌⊎◌, ◌∙◌, ◌+◌, ◌≤◌, ℕ, Bool, true, false, List, [], ◌∷◌, Option, Some, None, Result, Ok, Err, IfErr, IfOk, IfSome, ap, inl, inr, length, refl, subst, sym}
use Rattle.folder.specs.Held.{Held}
use Rattle.inputs.specs.Faults.{fault_of}
use Rattle.inputs.specs.declared.fault.Fault.{Fault}
use Rattle.inputs.specs.declared.fault.Fault.TheVariants.{Input, OutOfMemory}
use Rattle.inputs.specs.declared.input_files.InputFault.{InputFault}
use Rattle.inputs.specs.declared.input_files.InputFault.TheVariants.{Unreadable}
use Rattle.inputs.specs.declared.input_files.InputFile.{InputFile}
use Rattle.inputs.specs.declared.input_files.InputFile.TheVariants.{Requirements, Lock, Journal}
use Rattle.journal.specs.Opens.{Opens}
use Rattle.journal.specs.Values.{Refusal}
use Rattle.files.specs.Beside.{has}
use Rattle.files.specs.Completed.{IsBeyondRepair, IsUnless, LacksRequirements}
use Rattle.files.specs.JournalLocks.{Names}
use Rattle.files.specs.NextLocks.{IsCounted, IsFaultOf, IsLacking, IsNext, IsToRead, LacksLockOf, NoneTakesMore, Takes, file_at_fault, is_left_lock}
use Rattle.files.specs.Places.{AreNamed, IsUnread, StandAt, bytes_read, standing}
use Rattle.files.specs.TargetLocks.{is_among}
use Rattle.files.specs.declared.beside.Beside.{Beside}
use Rattle.files.specs.declared.saved_files.SavedFiles.{SavedFiles}
use Rattle.files.proofs.HeldFiles.{held_also}
use Rattle.files.proofs.JournalNames.{named-once}
use Rattle.files.proofs.NamedLocks.{HaveNamesWith, left-among}
use Rattle.files.proofs.NextLock.{lacking-is_next, refused-is_next}
use Rattle.files.proofs.OneInPlace.{one-text}
use Rattle.files.proofs.RefusedFiles.{opens-tells}
use Rattle.files.proofs.TriedLocks.{AreTried, all-tried, none-left, none-tried, one-tried}

-- ---- unless a read may fail

pub unless-also : (may : Type 0) (held : Option Held) (P Q : Held → Type 0) → ((h : Held) → P h → Q h) → IsUnless may held P → IsUnless may held Q
unless-also may held P Q so (inl fails) = inl fails
unless-also may held P Q so (inr is) = inr (held_also held P Q so is)

held-both : (held : Option Held) (P Q R : Held → Type 0) → ((h : Held) → P h → Q h → R h) → IfSome held P → IfSome held Q → IfSome held R
held-both None P Q R so p q = tt
held-both (Some h) P Q R so p q = so h p q

pub unless-both : (may : Type 0) (held : Option Held) (P Q R : Held → Type 0) → ((h : Held) → P h → Q h → R h) → IsUnless may held P → IsUnless may held Q → IsUnless may held R
unless-both may held P Q R so (inl fails) q = inl fails
unless-both may held P Q R so (inr p) (inl fails) = inl fails
unless-both may held P Q R so (inr p) (inr q) = inr (held-both held P Q R so p q)

-- ---- faults

-- one that is of no file is want of memory
pub memory-alone : (may : Type 0) (held : Option Held) (Is : InputFile → Held → Type 0) (fault told : Fault) → IsFaultOf may held Is fault → file_at_fault fault ≡ Err told → told ≡ OutOfMemory
memory-alone may held Is fault told (inl memory) is = let both : Err told ≡ Err OutOfMemory = sym is ∙ ap file_at_fault memory in cc
memory-alone may held Is fault told (inr of) is = absurd (let both : Err told ≡ Ok of.0 = sym is ∙ ap file_at_fault of.2 in cc)

-- one that is of a file
pub file-alone : (may : Type 0) (held : Option Held) (Is : InputFile → Held → Type 0) (fault : Fault) (file : InputFile) → IsFaultOf may held Is fault → file_at_fault fault ≡ Ok file → IsUnless may held (Is file)
file-alone may held Is fault file (inl memory) is = absurd (let both : Ok file ≡ Err OutOfMemory = sym is ∙ ap file_at_fault memory in cc)
file-alone may held Is fault file (inr of) is =
    let both : Ok file ≡ Ok of.0 = sym is ∙ ap file_at_fault of.2 in
    let same : of.0 ≡ file = cc in
    subst (λ (f : InputFile). IsUnless may held (Is f)) same of.3

pub fault-memory : (may : Type 0) (held : Option Held) (Is : InputFile → Held → Type 0) (fault : Fault) → fault ≡ OutOfMemory → IsFaultOf may held Is fault
fault-memory may held Is fault memory = inl memory

pub fault-also : (may : Type 0) (held : Option Held) (Is So : InputFile → Held → Type 0) (fault : Fault) → ((file : InputFile) (h : Held) → Is file h → So file h) → IsFaultOf may held Is fault → IsFaultOf may held So fault
fault-also may held Is So fault so (inl memory) = inl memory
fault-also may held Is So fault so (inr of) = inr (of.0, of.1, of.2, unless-also may held (Is of.0) (So of.0) (so of.0) of.3)

-- a file that isn't read
pub fault-unread : (may : Type 0) (held : Option Held) (Is : InputFile → Held → Type 0) (is_beside : Bool) (file : InputFile) (fault : Fault) → ((h : Held) → standing is_beside h file ≡ None → Is file h) → IsUnread held may is_beside file fault
    → IsFaultOf may held Is fault
fault-unread may held Is is_beside file fault so (inl memory) = inl memory
fault-unread may held Is is_beside file fault so (inr unread) = inr (file, Unreadable unread.0.0, unread.0.1, unless-also may held (λ h. standing is_beside h file ≡ None) (Is file) so unread.1)

-- a lock of a name that is left
pub fault-name : (may : Type 0) (held : Option Held) (is_beside : InputFile → Bool) (locks : List (List ℕ × List ℕ)) (name copy : List ℕ) (items left names : List (List ℕ)) (fault told : Fault) → told ≡ fault → copy ≡ name → items ≡ name ∷ left
    → HaveNamesWith locks items names → IsUnread held may (is_beside (Lock copy)) (Lock copy) fault → IsFaultOf may held (LacksLockOf is_beside names) told
fault-name may held is_beside locks name copy items left names fault told as_fault same items_are have unread =
    let among : is_among names copy ≡ true = subst (λ (n : List ℕ). is_among names n ≡ true) (sym same) (left-among locks name left names (subst (λ (l : List (List ℕ)). HaveNamesWith locks l names) items_are have)) in
    subst (IsFaultOf may held (LacksLockOf is_beside names)) (sym as_fault) (fault-unread may held (LacksLockOf is_beside names) (is_beside (Lock copy)) (Lock copy) fault (λ h none. ((copy, refl, among), none)) unread)

-- a lock that a journal names which was read
lacks-lock : (is_beside : InputFile → Bool) (journal : List ℕ) (names : List (List ℕ)) → Names journal names → (file : InputFile) (h : Held) → standing (is_beside Journal) h Journal ≡ Some journal → LacksLockOf is_beside names file h → IsLacking is_beside file h
lacks-lock is_beside journal names named file h there lacks = (subst (λ (f : InputFile). IsToRead is_beside f h) (sym lacks.0.1) (journal, names, there, named, lacks.0.2), lacks.1)

pub fault-lock : (may : Type 0) (held : Option Held) (is_beside : InputFile → Bool) (journal : List ℕ) (names : List (List ℕ)) (fault : Fault) → IfSome held (λ h. standing (is_beside Journal) h Journal ≡ Some journal) → Names journal names
    → IsFaultOf may held (LacksLockOf is_beside names) fault → IsFaultOf may held (IsLacking is_beside) fault
fault-lock may held is_beside journal names fault there named (inl memory) = inl memory
fault-lock may held is_beside journal names fault there named (inr of) =
    inr (of.0, of.1, of.2, unless-both may held (λ h. standing (is_beside Journal) h Journal ≡ Some journal) (LacksLockOf is_beside names of.0) (IsLacking is_beside of.0) (lacks-lock is_beside journal names named of.0) (inr there) of.3)

-- ---- files that don't open

pub next-unread : (may : Type 0) (held : Option Held) (beside : Beside) (fault : Fault) → IsFaultOf may held (IsLacking (has beside)) fault → IsFaultOf may held (IsNext beside) fault
next-unread may held beside fault unread = fault-also may held (IsLacking (has beside)) (IsNext beside) fault (lacking-is_next beside) unread

pub next-refused : (may : Type 0) (held : Option Held) (beside : Beside) (files : SavedFiles) (fault : Fault) → IfSome held (λ h. StandAt (has beside) h (bytes_read files)) → AreNamed files
    → (fault ≡ OutOfMemory) ⊎ ((refusal : Refusal) × (fault ≡ fault_of refusal) × Opens files.requirements.items files.locks.entries files.journal (Err refusal)) → IsFaultOf may held (IsNext beside) fault
next-refused may held beside files fault stand named (inl memory) = inl memory
next-refused may held beside files fault stand named (inr told) =
    let of = opens-tells files.requirements.items files.locks.entries files.journal told.0 told.2 in
    inr (of.0, of.1, told.1 ∙ of.2, inr (held_also held (λ h. StandAt (has beside) h (bytes_read files)) (IsNext beside of.0) (λ h are. refused-is_next beside of.0 of.1 h (bytes_read files) told.0 of.2 told.2 named are) stand))

-- ---- locks that are tried

-- so many locks a journal names that was read
pub count-named : (may : Type 0) (held : Option Held) (beside : Beside) (journal : List ℕ) (names : List (List ℕ)) (count : ℕ) → IfSome held (λ h. standing (has beside Journal) h Journal ≡ Some journal) → Names journal names → count ≡ length names
    → IsUnless may held (IsCounted beside count)
count-named may held beside journal names count there named is =
    inr (held_also held (λ h. standing (has beside Journal) h Journal ≡ Some journal) (IsCounted beside count) (λ h stands other others stands_too named_too.
    let same : other ≡ journal = one-text (standing (has beside Journal) h Journal) other journal stands_too stands in
    is ∙ ap (λ (l : List (List ℕ)). length l) (named-once journal names others named (subst (λ (j : List ℕ). Names j others) same named_too))) there)

-- a journal that isn't there names none
pub count-none : (may : Type 0) (held : Option Held) (beside : Beside) (fault : Fault) (file : InputFile) → IsUnread held may (has beside Journal) Journal fault → file_at_fault fault ≡ Ok file → IsUnless may held (IsCounted beside 0)
count-none may held beside fault file unread is =
    unless-also may held (λ h. standing (has beside Journal) h Journal ≡ None) (IsCounted beside 0) (λ h none journal names there named. absurd (cc (sym none ∙ there)))
    (file-alone may held (λ f h. standing (has beside Journal) h Journal ≡ None) fault file (fault-unread may held (λ f h. standing (has beside Journal) h Journal ≡ None) (has beside Journal) Journal fault (λ h none. none) unread) is)

module _ (may : Type 0) (held : Option Held) where
  abbrev Tried : Beside → Beside → ℕ → ℕ → Type 0
  Tried first beside tried count = IsUnless may held (AreTried first beside tried count)

  pub try-first : (beside : Beside) (count : ℕ) → IsUnless may held (IsCounted beside count) → Tried beside beside 0 count
  try-first beside count counted = unless-also may held (IsCounted beside count) (AreTried beside beside 0 count) (λ h. none-tried beside count h) counted

  pub try-next : (first old new : Beside) (tried next count : ℕ) (file : InputFile) → next ≡ tried + 1 → Tried first old tried count → IsUnless may held (IsNext old file) → Takes file old new → Tried first new next count
  try-next first old new tried next count file more are of takes =
      subst (λ (n : ℕ). Tried first new n count) (sym more)
      (unless-both may held (AreTried first old tried count) (IsNext old file) (AreTried first new (tried + 1) count) (λ h a n. one-tried first old new tried count file h a n takes) are of)

  pub try-none : (first beside : Beside) (tried count : ℕ) (file : InputFile) → Tried first beside tried count → IsUnless may held (IsNext beside file) → is_left_lock beside file ≡ false → IsUnless may held (NoneTakesMore first)
  try-none first beside tried count file are of none =
      unless-both may held (AreTried first beside tried count) (IsNext beside file) (NoneTakesMore first) (λ h a n. none-left first beside tried count file h a n none) are of

  pub try-last : (first beside : Beside) (tried count : ℕ) (file : InputFile) → count ≤ tried → Tried first beside tried count → IsUnless may held (IsNext beside file) → IsUnless may held (NoneTakesMore first)
  try-last first beside tried count file past are of =
      unless-both may held (AreTried first beside tried count) (IsNext beside file) (NoneTakesMore first) (λ h a n. all-tried first beside tried count file h past a n) are of
