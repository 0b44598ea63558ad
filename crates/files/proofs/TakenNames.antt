-- The names of files that are taken from beside their places.
use Rattle.std.proofs.Common.{◌≡◌, ◌∙◌, ◌||◌, ◌++◌, ℕ, Bool, true, false, List, [], ◌∷◌, ap, append_assoc, inl, inr, map, refl, subst, sym, true≢false}
use Rattle.std.proofs.lemmas.Bool.{cases_Bool}
use Rattle.std.proofs.lemmas.Slice.Eq.{bytes_eq-Decides}
use Rattle.std.specs.List.{flat_map, list_any}
use Rattle.std.specs.Prelude.{◌&&◌, codes}
use Rattle.std.specs.Str.{bytes_eq}
use Rattle.states.specs.TargetNames.{file_name}
use Rattle.folder.proofs.Names.{same_name}
use Rattle.folder.specs.Held.{is_among}
use Rattle.inputs.specs.FileNames.{name_of}
use Rattle.inputs.specs.declared.input_files.InputFile.{InputFile}
use Rattle.inputs.specs.declared.input_files.InputFile.TheVariants.{Requirements, Lock, Journal}
use Rattle.journal.specs.Locks.{LockTexts}
use Rattle.files.proofs.NamesApart.{differs, journal-apart, one-target, requirements-apart}
use Rattle.files.proofs.WrittenOrGone.{Has}
use Rattle.files.specs.Beside.{has, one_where, taken_from}
use Rattle.files.specs.declared.beside.Beside.{Beside}
use Rattle.files.specs.declared.saved_files.SavedFiles.{SavedFiles}

-- the names of files
abbrev pub names_in : List InputFile → List (List ℕ)
names_in files = map (λ file. name_of file) files

among-front : (is : Bool) (file : InputFile) (rest : List InputFile) (x : List ℕ) → is_among (names_in (one_where is file ++ rest)) x ≡ ((is && bytes_eq (name_of file) x) || is_among (names_in rest) x)
among-front true file rest x = refl
among-front false file rest x = refl

either-assoc : (a b c : Bool) → (a || (b || c)) ≡ ((a || b) || c)
either-assoc true b c = refl
either-assoc false b c = refl

module _ (beside : Beside) where
  -- whether the lock of a target is taken that has this name
  abbrev any_lock : List ℕ → LockTexts → Bool
  any_lock x locks = list_any (λ lock. has beside (Lock lock.0) && bytes_eq (file_name lock.0) x) locks

  abbrev of_locks : LockTexts → List InputFile
  of_locks locks = flat_map (λ lock. one_where (has beside (Lock lock.0)) (Lock lock.0)) locks

  among-locks : (locks : LockTexts) (rest : List InputFile) (x : List ℕ) → is_among (names_in (of_locks locks ++ rest)) x ≡ (any_lock x locks || is_among (names_in rest) x)
  among-locks [] rest x = refl
  among-locks (lock ∷ locks) rest x =
      ap (λ (files : List InputFile). is_among (names_in files) x) (append_assoc (one_where (has beside (Lock lock.0)) (Lock lock.0)) (of_locks locks) rest)
      ∙ among-front (has beside (Lock lock.0)) (Lock lock.0) (of_locks locks ++ rest) x
      ∙ ap (λ (b : Bool). (has beside (Lock lock.0) && bytes_eq (file_name lock.0) x) || b) (among-locks locks rest x)
      ∙ either-assoc (has beside (Lock lock.0) && bytes_eq (file_name lock.0) x) (any_lock x locks) (is_among (names_in rest) x)

  among-taken : (files : SavedFiles) (x : List ℕ) → is_among (names_in (taken_from beside files)) x
      ≡ ((beside.requirements && bytes_eq (codes "requirements.txt") x) || (any_lock x files.locks.entries || ((beside.journal && bytes_eq (codes "reqlock.journal") x) || false)))
  among-taken files x =
      ap (λ (all : List InputFile). is_among (names_in all) x) (append_assoc (one_where beside.requirements Requirements) (of_locks files.locks.entries) (one_where beside.journal Journal))
      ∙ among-front beside.requirements Requirements (of_locks files.locks.entries ++ one_where beside.journal Journal) x
      ∙ ap (λ (b : Bool). (beside.requirements && bytes_eq (codes "requirements.txt") x) || b) (among-locks files.locks.entries (one_where beside.journal Journal) x ∙ ap (λ (b : Bool). any_lock x files.locks.entries || b) (last beside.journal))
    where
      last : (is : Bool) → is_among (names_in (one_where is Journal)) x ≡ ((is && bytes_eq (codes "reqlock.journal") x) || false)
      last true = refl
      last false = refl

  -- ---- names of no lock, and those of locks

  and-false : (a : Bool) → (a && false) ≡ false
  and-false true = refl
  and-false false = refl

  no-lock : (locks : LockTexts) (x : List ℕ) → ((target : List ℕ) → file_name target ≡ x → ⊥) → any_lock x locks ≡ false
  no-lock [] x apart = refl
  no-lock (lock ∷ locks) x apart =
      ap (λ (b : Bool). (has beside (Lock lock.0) && b) || any_lock x locks) (differs (file_name lock.0) x (apart lock.0))
      ∙ ap (λ (b : Bool). b || any_lock x locks) (and-false (has beside (Lock lock.0))) ∙ no-lock locks x apart

  and-parts : (a b : Bool) → (a && b) ≡ true → (a ≡ true) × (b ≡ true)
  and-parts true b is = (refl, is)
  and-parts false b is = absurd (true≢false (sym is))

  lock-had : (locks : LockTexts) (name : List ℕ) → any_lock (file_name name) locks ≡ true → has beside (Lock name) ≡ true
  lock-had [] name any = absurd (true≢false (sym any))
  lock-had (lock ∷ locks) name any = elim (cases_Bool (has beside (Lock lock.0) && bytes_eq (file_name lock.0) (file_name name))) [
    | inl here ↦
        let parts = and-parts (has beside (Lock lock.0)) (bytes_eq (file_name lock.0) (file_name name)) here in
        subst (λ (n : List ℕ). has beside (Lock n) ≡ true) (one-target lock.0 name ((bytes_eq-Decides (file_name lock.0) (file_name name)).0 parts.1)) parts.0
    | inr other ↦ lock-had locks name (sym (ap (λ (b : Bool). b || any_lock (file_name name) locks) other) ∙ any)
  ]

  had-lock : (locks : LockTexts) (lock : List ℕ × List ℕ) → Has lock locks → has beside (Lock lock.0) ≡ true → any_lock (file_name lock.0) locks ≡ true
  had-lock [] lock is had = absurd is
  had-lock (other ∷ locks) lock (inl same) had =
      ap (λ (l : List ℕ × List ℕ). (has beside (Lock l.0) && bytes_eq (file_name l.0) (file_name lock.0)) || any_lock (file_name lock.0) locks) (sym same)
      ∙ ap (λ (b : Bool). (b && bytes_eq (file_name lock.0) (file_name lock.0)) || any_lock (file_name lock.0) locks) had
      ∙ ap (λ (b : Bool). b || any_lock (file_name lock.0) locks) (same_name (file_name lock.0))
  had-lock (other ∷ locks) lock (inr more) had = or-right (has beside (Lock other.0) && bytes_eq (file_name other.0) (file_name lock.0)) (any_lock (file_name lock.0) locks) (had-lock locks lock more had)
    where
      or-right : (a b : Bool) → b ≡ true → (a || b) ≡ true
      or-right true b is = refl
      or-right false b is = is

  alike : (a b : Bool) → (a ≡ true → b ≡ true) → (b ≡ true → a ≡ true) → a ≡ b
  alike true b there back = sym (there refl)
  alike false true there back = back refl
  alike false false there back = refl

  first-alone : (r j : Bool) → ((r && true) || (false || ((j && false) || false))) ≡ r
  first-alone true j = refl
  first-alone false true = refl
  first-alone false false = refl

  last-alone : (r j : Bool) → ((r && false) || (false || ((j && true) || false))) ≡ j
  last-alone true true = refl
  last-alone true false = refl
  last-alone false true = refl
  last-alone false false = refl

  middle-alone : (r a j : Bool) → ((r && false) || (a || ((j && false) || false))) ≡ a
  middle-alone true true j = refl
  middle-alone true false true = refl
  middle-alone true false false = refl
  middle-alone false true j = refl
  middle-alone false false true = refl
  middle-alone false false false = refl

  -- a file's name is among those of files that are taken, where it is one of them
  module _ (files : SavedFiles) where
    pub requirements-taken : is_among (names_in (taken_from beside files)) (name_of Requirements) ≡ beside.requirements
    requirements-taken =
        among-taken files (codes "requirements.txt")
        ∙ (λ i. (beside.requirements && same_name (codes "requirements.txt") i) || (no-lock files.locks.entries (codes "requirements.txt") requirements-apart i || ((beside.journal && other i) || false)))
        ∙ first-alone beside.requirements beside.journal
      where
        other : bytes_eq (codes "reqlock.journal") (codes "requirements.txt") ≡ false
        other = differs (codes "reqlock.journal") (codes "requirements.txt") (λ same. cc same)

    pub journal-taken : is_among (names_in (taken_from beside files)) (name_of Journal) ≡ beside.journal
    journal-taken =
        among-taken files (codes "reqlock.journal")
        ∙ (λ i. (beside.requirements && other i) || (no-lock files.locks.entries (codes "reqlock.journal") journal-apart i || ((beside.journal && same_name (codes "reqlock.journal") i) || false)))
        ∙ last-alone beside.requirements beside.journal
      where
        other : bytes_eq (codes "requirements.txt") (codes "reqlock.journal") ≡ false
        other = differs (codes "requirements.txt") (codes "reqlock.journal") (λ same. cc same)

    pub lock-taken : (lock : List ℕ × List ℕ) → Has lock files.locks.entries → is_among (names_in (taken_from beside files)) (file_name lock.0) ≡ has beside (Lock lock.0)
    lock-taken lock is =
        among-taken files (file_name lock.0)
        ∙ (λ i. (beside.requirements && differs (codes "requirements.txt") (file_name lock.0) (λ same. requirements-apart lock.0 (sym same)) i)
        || (alike (any_lock (file_name lock.0) files.locks.entries) (has beside (Lock lock.0)) (lock-had files.locks.entries lock.0) (had-lock files.locks.entries lock is) i
        || ((beside.journal && differs (codes "reqlock.journal") (file_name lock.0) (λ same. journal-apart lock.0 (sym same)) i) || false)))
        ∙ middle-alone beside.requirements (has beside (Lock lock.0)) beside.journal
