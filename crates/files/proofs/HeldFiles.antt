-- Files of a folder, where it is known what it holds.
use Rattle.std.proofs.Common.{◌≡◌, ◌∙◌, ℕ, Bool, false, List, [], Option, Some, None, Result, Ok, Err, IfOk, IfSome, ap, subst, sym}
use Rattle.std.specs.BTreeMap.{IsOrdered, insert_entry}
use Rattle.std.specs.Cmp.Lexicographic.{slice_cmp}
use Rattle.std.specs.Ordering.{nat_cmp}
use Rattle.folder.specs.Held.{Held}
use Rattle.inputs.specs.declared.fault.Fault.{Fault}
use Rattle.inputs.specs.declared.fault.Fault.TheVariants as faults
use Rattle.inputs.specs.declared.input_files.InputFile.{InputFile}
use Rattle.inputs.specs.declared.input_files.InputFile.TheVariants.{Requirements, Lock, Journal}
use Rattle.journal.specs.Locks.{LockTexts}
use Rattle.files.proofs.StandingFiles.{has-none, one_lock_more, stand_same, taken_stand}
use Rattle.files.specs.Beside.{FilesStandBeside, completed_by, files_of, has, taken_from}
use Rattle.files.specs.Places.{AreInPlace, FileBytes, LocksStandAt, StandAt, bytes_read, standing}
use Rattle.files.specs.declared.beside.Beside.{Beside}
use Rattle.files.specs.declared.saved_files.SavedFiles.{SavedFiles}

-- what holds of what is held, and leads to another thing
pub held_also : (held : Option Held) (P Q : Held → Type 0) → ((h : Held) → P h → Q h) → IfSome held P → IfSome held Q
held_also None P Q also is = tt
held_also (Some h) P Q also is = also h is

-- no lock has to stand there
pub no_lock_held : (held : Option Held) (is_beside : InputFile → Bool) (locks : LockTexts) → locks ≡ [] → IfSome held (λ h. LocksStandAt is_beside h locks)
no_lock_held None is_beside locks empty = tt
no_lock_held (Some h) is_beside locks empty = subst (LocksStandAt is_beside h) (sym empty) tt

-- a lock that stands there stands with those that do
pub one_lock_more_held : (held : Option Held) (is_beside : InputFile → Bool) (locks new : LockTexts) (name copy bytes text : List ℕ) → copy ≡ name → text ≡ bytes → new ≡ insert_entry (slice_cmp nat_cmp) locks name text
    → IfSome held (λ h. LocksStandAt is_beside h locks) → IfSome held (λ h. standing (is_beside (Lock copy)) h (Lock copy) ≡ Some bytes) → IfSome held (λ h. LocksStandAt is_beside h new)
one_lock_more_held None is_beside locks new name copy bytes text one same put are is = tt
one_lock_more_held (Some h) is_beside locks new name copy bytes text one same put are is =
    subst (LocksStandAt is_beside h) (sym put)
    (one_lock_more is_beside h locks name text are
    (subst (λ (n : List ℕ). standing (is_beside (Lock n)) h (Lock n) ≡ Some text) one (is ∙ ap (λ (b : List ℕ). Some b) (sym same))))

-- a file that was read, with its bytes under another name
pub read_held : (held : Option Held) (is_beside : Bool) (file : InputFile) (bytes text : List ℕ) → text ≡ bytes → IfSome held (λ h. standing is_beside h file ≡ Some bytes) → IfSome held (λ h. standing is_beside h file ≡ Some text)
read_held held is_beside file bytes text same is = subst (λ (b : List ℕ). IfSome held (λ h. standing is_beside h file ≡ Some b)) (sym same) is

-- files that stand there stand there together
pub stand_held : (held : Option Held) (is_beside : InputFile → Bool) (files : FileBytes) → IfSome held (λ h. standing (is_beside Requirements) h Requirements ≡ Some files.requirements)
    → IfSome held (λ h. LocksStandAt is_beside h files.locks) → IfSome held (λ h. standing (is_beside Journal) h Journal ≡ Some files.journal) → IfSome held (λ h. StandAt is_beside h files)
stand_held None is_beside files requirements locks journal = tt
stand_held (Some h) is_beside files requirements locks journal = record { requirements = requirements; locks = locks; journal = journal }

-- where no file is taken from beside its place, all stand in their places
in_place_held : (held : Option Held) (beside : Beside) (files : FileBytes) → files_of beside ≡ [] → IfSome held (λ h. StandAt (has beside) h files) → IfSome held (λ h. AreInPlace h files)
in_place_held held beside files none stand = held_also held (λ h. StandAt (has beside) h files) (λ h. AreInPlace h files) (λ h. stand_same (has beside) (λ file. false) h files (has-none beside none)) stand

-- the same of files that were read
pub read_in_place : (held : Option Held) (beside : Beside) (result : Result SavedFiles Fault) → files_of beside ≡ [] → IfOk result (λ files. IfSome held (λ h. StandAt (has beside) h (bytes_read files)))
    → IfOk result (λ files. IfSome held (λ h. AreInPlace h (bytes_read files)))
read_in_place held beside (Ok files) none stand = in_place_held held beside (bytes_read files) none stand
read_in_place held beside (Err fault) none stand = tt

-- ---- files that open

-- those that were taken from beside their places stand there in turn
pub taken_held : (held : Option Held) (beside : Beside) (files : SavedFiles) (taken : List InputFile) → taken ≡ taken_from beside files → IsOrdered (slice_cmp nat_cmp) files.locks
    → IfSome held (λ h. StandAt (has beside) h (bytes_read files)) → IfSome held (FilesStandBeside taken)
taken_held held beside files taken are rise stand =
    held_also held (λ h. StandAt (has beside) h (bytes_read files)) (FilesStandBeside taken)
    (λ h stands. subst (λ (l : List InputFile). FilesStandBeside l h) (sym are) (taken_stand beside files h rise stands)) stand

opened_held : {S : Type 0} (held : Option Held) (beside : Beside) (opened : Result (SavedFiles × S) Fault) → IfOk opened (λ o. IfSome held (λ h. StandAt (has beside) h (bytes_read o.0)))
    → IfOk (completed_by beside opened) (λ answer. IfSome answer (λ found. IfSome held (λ h. StandAt (has found.0) h (bytes_read found.1))))
opened_held held beside (Ok opened) stand = stand
opened_held held beside (Err (faults.Input file fault)) stand = tt
opened_held held beside (Err fault) stand = tt

-- files that opened with those from beside stand there with them
pub completed_held : {S : Type 0} (held : Option Held) (beside : Beside) (opened : Result (SavedFiles × S) Fault) (result : Result (Option (Beside × SavedFiles × S)) Fault)
    → result ≡ completed_by beside opened → IfOk opened (λ o. IfSome held (λ h. StandAt (has beside) h (bytes_read o.0)))
    → IfOk result (λ answer. IfSome answer (λ found. IfSome held (λ h. StandAt (has found.0) h (bytes_read found.1))))
completed_held {S} held beside opened result is stand =
    subst (λ (r : Result (Option (Beside × SavedFiles × S)) Fault). IfOk r (λ answer. IfSome answer (λ found. IfSome held (λ h. StandAt (has found.0) h (bytes_read found.1))))) (sym is) (opened_held held beside opened stand)
