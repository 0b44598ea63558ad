-- The journal among the files that a save rewrites.
use Rattle.std.proofs.Common.{◌≡◌, ◌||◌, ◌++◌, ℕ, Bool, true, false, List, [], ◌∷◌, map, refl, ap}
use Rattle.std.specs.List.{AllByRecursion, flat_map}
use Rattle.std.specs.Str.{bytes_eq}
use Rattle.states.specs.TargetNames.{file_name}
use Rattle.folder.specs.Held.{is_among}
use Rattle.folder.specs.Saves.{names_of}
use Rattle.inputs.specs.FileNames.{name_of}
use Rattle.inputs.specs.declared.input_files.InputFile.{InputFile}
use Rattle.inputs.specs.declared.input_files.InputFile.TheVariants.{Requirements, Lock, Journal}
use Rattle.journal.proofs.StepsJoined.{all-append}
use Rattle.journal.specs.declared.saved.Saved.{Saved}
use Rattle.files.specs.NamedRewrites.{new_file}
use Rattle.files.specs.RewriteParts.{RewriteParts}
use Rattle.files.specs.Rewrites.{is_left, lock_rewrites, rewrites_of, rewriting}
use Rattle.files.specs.declared.saved_files.SavedFiles.{SavedFiles}
use Rattle.power_cuts.proofs.Writes.{WritesOnly}

-- a rewrite under the journal's name has these bytes
abbrev IsOfJournal : List ℕ → RewriteParts → Type 0
IsOfJournal bytes r = bytes_eq (name_of r.file) (name_of Journal) ≡ true → r.bytes ≡ bytes

-- no lock has the journal's name
lock-apart : (target : List ℕ) → bytes_eq (file_name target) (name_of Journal) ≡ true → ⊥
lock-apart [] same = cc same
lock-apart (b ∷ rest) same = cc same

one-rewrite : (journal : List ℕ) (is_same : Bool) (file : InputFile) (bytes : List ℕ) → IsOfJournal journal (record { file = file; bytes = bytes }) → AllByRecursion (IsOfJournal journal) (rewriting is_same file bytes)
one-rewrite journal true file bytes only = tt
one-rewrite journal false file bytes only = (only, tt)

of-locks : (journal : List ℕ) (is_left : List ℕ × List ℕ → Bool) (locks : List (List ℕ × List ℕ)) → AllByRecursion (IsOfJournal journal) (flat_map (λ lock. rewriting (is_left lock) (Lock lock.0) lock.1) locks)
of-locks journal is_left [] = tt
of-locks journal is_left (lock ∷ locks) =
    all-append (IsOfJournal journal) (rewriting (is_left lock) (Lock lock.0) lock.1) (flat_map (λ lock. rewriting (is_left lock) (Lock lock.0) lock.1) locks)
    (one-rewrite journal (is_left lock) (Lock lock.0) lock.1 (λ same. absurd (lock-apart lock.0 same))) (of-locks journal is_left locks)

as-new_files : (journal : List ℕ) (rewrites : List RewriteParts) → AllByRecursion (IsOfJournal journal) rewrites → WritesOnly (name_of Journal) journal (map new_file rewrites)
as-new_files journal [] all = tt
as-new_files journal (r ∷ rewrites) all = (all.0, as-new_files journal rewrites all.1)

module _ (files : SavedFiles) (saved : Saved) where
  abbrev first : List RewriteParts
  first = rewriting (bytes_eq files.requirements.items saved.requirements) Requirements saved.requirements

  abbrev journal : List RewriteParts
  journal = rewriting (bytes_eq files.journal saved.journal) Journal saved.journal

  abbrev locks : Bool → List RewriteParts
  locks are_known = lock_rewrites files are_known saved.locks.entries

  -- a save writes no other bytes under the journal's name than its journal
  pub journal-only : WritesOnly (name_of Journal) saved.journal (map new_file (rewrites_of files saved))
  journal-only =
      let Is = IsOfJournal saved.journal in
      let locked : (are_known : Bool) → AllByRecursion Is (locks are_known) = λ are_known. of-locks saved.journal (λ lock. is_left files are_known lock.0 lock.1) saved.locks.entries in
      as-new_files saved.journal (rewrites_of files saved)
      (all-append Is (first ++ locks true ++ journal) (locks false)
      (all-append Is (first ++ locks true) journal
      (all-append Is first (locks true)
      (one-rewrite saved.journal (bytes_eq files.requirements.items saved.requirements) Requirements saved.requirements (λ same. absurd (cc same))) (locked true))
      (one-rewrite saved.journal (bytes_eq files.journal saved.journal) Journal saved.journal (λ same. refl))) (locked false))

  abbrev names : List RewriteParts → List (List ℕ)
  names rewrites = names_of (map new_file rewrites)

  or-true : (a b : Bool) → b ≡ true → a || b ≡ true
  or-true true b is = refl
  or-true false b is = is

  behind : (xs ys : List RewriteParts) (name : List ℕ) → is_among (names ys) name ≡ true → is_among (names (xs ++ ys)) name ≡ true
  behind [] ys name is = is
  behind (x ∷ xs) ys name is = or-true (bytes_eq (name_of x.file) name) (is_among (names (xs ++ ys)) name) (behind xs ys name is)

  in-front : (xs ys : List RewriteParts) (name : List ℕ) → is_among (names xs) name ≡ true → is_among (names (xs ++ ys)) name ≡ true
  in-front [] ys name is = absurd (cc is)
  in-front (x ∷ xs) ys name is = either (bytes_eq (name_of x.file) name) (is_among (names xs) name) is (in-front xs ys name)
    where
      either : (a b : Bool) → a || b ≡ true → (b ≡ true → is_among (names (xs ++ ys)) name ≡ true) → a || is_among (names (xs ++ ys)) name ≡ true
      either true b is later = refl
      either false b is later = later is

  -- where the journal changes, it is rewritten
  pub journal-among : bytes_eq files.journal saved.journal ≡ false → is_among (names_of (map new_file (rewrites_of files saved))) (name_of Journal) ≡ true
  journal-among other =
      in-front (first ++ locks true ++ journal) (locks false) (name_of Journal)
      (behind (first ++ locks true) journal (name_of Journal) (ap (λ (b : Bool). is_among (names (rewriting b Journal saved.journal)) (name_of Journal)) other))
