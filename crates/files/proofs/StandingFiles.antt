-- Files that stand in their places, or beside them.
use Rattle.std.proofs.Common.{◌≡◌, ◌∙◌, ◌++◌, ℕ, Bool, true, false, List, [], ◌∷◌, Less, Equal, Greater, Option, Ordering, Some, None, IsSome, append_assoc, append-nil, ap, inl, is_some, map, refl, subst, sym, true≢false}
use Rattle.std.proofs.lemmas.Map.Keys.{sorted_head, sorted_tail}
use Rattle.std.proofs.lemmas.Map.Text.{is_eq-slice_cmp}
use Rattle.std.proofs.lemmas.Slice.Eq.{bytes_eq-Decides}
use Rattle.std.specs.BTreeMap.{IsOrdered, insert_entry}
use Rattle.std.specs.Cmp.Lexicographic.{slice_cmp}
use Rattle.std.specs.List.{AllByRecursion, flat_map, list_any}
use Rattle.std.specs.List.Sorted.{IsStrictlySortedBy}
use Rattle.std.specs.Ordering.{is_eq, match_ordering, nat_cmp}
use Rattle.std.specs.Prelude.{codes}
use Rattle.states.proofs.EntryFacts.{not-below}
use Rattle.states.specs.TargetNames.{file_name}
use Rattle.folder.proofs.Names.{with_other}
use Rattle.folder.specs.Held.{Files, Held, renamed}
use Rattle.inputs.specs.FileNames.{name_of}
use Rattle.inputs.specs.declared.input_files.InputFile.{InputFile}
use Rattle.inputs.specs.declared.input_files.InputFile.TheVariants.{Requirements, Lock, Journal}
use Rattle.journal.specs.Locks.{LockTexts}
use Rattle.files.proofs.NamesApart.{differs, journal-apart, one-target, requirements-apart}
use Rattle.files.specs.Beside.{FilesStandBeside, files_of, has, one_where, taken_from}
use Rattle.files.specs.Places.{AreInPlace, AreKnown, FileBytes, LocksStandAt, StandAt, bytes_read, standing}
use Rattle.files.specs.declared.beside.Beside.{Beside}
use Rattle.files.specs.declared.saved_files.SavedFiles.{SavedFiles}

-- ---- items of lists

-- what each has that has another thing, all have
pub all_also : {X : Type 0} (P Q : X → Type 0) (xs : List X) → ((x : X) → P x → Q x) → AllByRecursion P xs → AllByRecursion Q xs
all_also P Q [] also all = tt
all_also P Q (x ∷ xs) also all = (also x all.0, all_also P Q xs also all.1)

-- ---- in their places

lock_in_place : (h k : Held) → k.placed ≡ h.placed → (lock : List ℕ × List ℕ) → standing false h (Lock lock.0) ≡ Some lock.1 → standing false k (Lock lock.0) ≡ Some lock.1
lock_in_place h k same lock is = ap (λ (b : Files). b (file_name lock.0)) same ∙ is

-- where the places are the same, the same files stand in them
pub in_place_same : (h k : Held) (f : FileBytes) → k.placed ≡ h.placed → AreInPlace h f → AreInPlace k f
in_place_same h k f same are = record {
  requirements = ap (λ (b : Files). b (codes "requirements.txt")) same ∙ are.requirements;
  locks =
      all_also (λ (lock : List ℕ × List ℕ). standing false h (Lock lock.0) ≡ Some lock.1) (λ (lock : List ℕ × List ℕ). standing false k (Lock lock.0) ≡ Some lock.1) f.locks
      (lock_in_place h k same) are.locks;
  journal = ap (λ (b : Files). b (codes "reqlock.journal")) same ∙ are.journal;
}

-- files in their places are known
pub known : (h : Held) (f : FileBytes) → AreInPlace h f → AreKnown h f
known h f are = record { requirements = are.requirements; locks = are.locks; journal = inl are.journal }

moved : (a b : Bool) (h : Held) (file : InputFile) (bytes : Option (List ℕ)) → a ≡ b → standing a h file ≡ bytes → standing b h file ≡ bytes
moved a b h file bytes same is = subst (λ (c : Bool). standing c h file ≡ bytes) same is

-- files stand there where all of them are told to stand at the same places
pub stand_same : (a b : InputFile → Bool) (h : Held) (f : FileBytes) → ((file : InputFile) → a file ≡ b file) → StandAt a h f → StandAt b h f
stand_same a b h f same stand = record {
  requirements = moved (a Requirements) (b Requirements) h Requirements (Some f.requirements) (same Requirements) stand.requirements;
  locks =
      all_also (λ (lock : List ℕ × List ℕ). standing (a (Lock lock.0)) h (Lock lock.0) ≡ Some lock.1) (λ (lock : List ℕ × List ℕ). standing (b (Lock lock.0)) h (Lock lock.0) ≡ Some lock.1) f.locks
      (λ lock is. moved (a (Lock lock.0)) (b (Lock lock.0)) h (Lock lock.0) (Some lock.1) (same (Lock lock.0)) is) stand.locks;
  journal = moved (a Journal) (b Journal) h Journal (Some f.journal) (same Journal) stand.journal;
}

-- ---- no file beside

record NoneOf (requirements : Bool) (names : List (List ℕ)) (journal : Bool) : Type 0 where
  no_requirements : requirements ≡ false
  no_locks : names ≡ []
  no_journal : journal ≡ false

none_of : (requirements journal : Bool) (names : List (List ℕ)) → one_where requirements Requirements ++ map (λ name. Lock name) names ++ one_where journal Journal ≡ [] → NoneOf requirements names journal
none_of true journal names none = absurd (cc none)
none_of false journal (name ∷ names) none = absurd (cc none)
none_of false true [] none = absurd (cc none)
none_of false false [] none = record { no_requirements = refl; no_locks = refl; no_journal = refl }

none-has : (beside : Beside) → NoneOf beside.requirements beside.locks.keys beside.journal → (file : InputFile) → has beside file ≡ false
none-has beside none Requirements = none.no_requirements
none-has beside none (Lock name) = ap (λ (names : List (List ℕ)). list_any (λ other. is_eq (slice_cmp nat_cmp name other)) names) none.no_locks
none-has beside none Journal = none.no_journal
none-has beside none file = refl

-- where no file is taken from beside its place, none is told to be
pub has-none : (beside : Beside) → files_of beside ≡ [] → (file : InputFile) → has beside file ≡ false
has-none beside none = none-has beside (none_of beside.requirements beside.journal beside.locks.keys none)

-- ---- beside their places

-- files with other names than this one's
abbrev Others : InputFile → List InputFile → Type 0
Others file files = AllByRecursion (λ other. name_of file ≡ name_of other → ⊥) files

-- each stands beside its place, and no two have one name
abbrev Stand : Held → List InputFile → Type 0
Stand h [] = Unit {0}
Stand h (file ∷ files) = IsSome (h.beside (name_of file)) × Others file files × Stand h files

others_stay : (h : Held) (file : InputFile) (files : List InputFile) → Others file files → Stand h files → Stand (renamed (name_of file) h) files
others_stay h file [] apart stand = tt
others_stay h file (other ∷ files) apart stand = (
  ap (λ (o : Option (List ℕ)). is_some o) (with_other h.beside (name_of file) None (name_of other) (differs (name_of file) (name_of other) apart.0)) ∙ stand.0,
  stand.1,
  others_stay h file files apart.1 stand.2,
)

-- such files stand beside in turn
in_turn_beside : (files : List InputFile) (h : Held) → Stand h files → FilesStandBeside files h
in_turn_beside [] h stand = tt
in_turn_beside (file ∷ files) h stand = (stand.0, in_turn_beside files (renamed (name_of file) h) (others_stay h file files stand.1 stand.2))

-- ---- a file in front of others

stands-beside : (is_beside : Bool) (h : Held) (file : InputFile) (bytes : List ℕ) → standing is_beside h file ≡ Some bytes → is_beside ≡ true → IsSome (h.beside (name_of file))
stands-beside true h file bytes is taken = ap (λ (o : Option (List ℕ)). is_some o) is
stands-beside false h file bytes is taken = absurd (true≢false (sym taken))

in_front : (is_beside : Bool) (h : Held) (file : InputFile) (bytes : List ℕ) (rest : List InputFile) → standing is_beside h file ≡ Some bytes → Others file rest → Stand h rest
    → Stand h (one_where is_beside file ++ rest)
in_front true h file bytes rest is apart stand = (stands-beside true h file bytes is refl, apart, stand)
in_front false h file bytes rest is apart stand = stand

others-front : (is_beside : Bool) (file front : InputFile) (rest : List InputFile) → (name_of file ≡ name_of front → ⊥) → Others file rest → Others file (one_where is_beside front ++ rest)
others-front true file front rest apart others = (apart, others)
others-front false file front rest apart others = others

-- ---- locks in front of others

abbrev locks_beside : (InputFile → Bool) → LockTexts → List InputFile
locks_beside is_beside locks = flat_map (λ lock. one_where (is_beside (Lock lock.0)) (Lock lock.0)) locks

others-locks : (is_beside : InputFile → Bool) (file : InputFile) (locks : LockTexts) (rest : List InputFile) → AllByRecursion (λ lock. name_of file ≡ file_name lock.0 → ⊥) locks → Others file rest
    → Others file (locks_beside is_beside locks ++ rest)
others-locks is_beside file [] rest apart others = others
others-locks is_beside file (lock ∷ locks) rest apart others =
    subst (Others file) (sym (append_assoc (one_where (is_beside (Lock lock.0)) (Lock lock.0)) (locks_beside is_beside locks) rest))
    (others-front (is_beside (Lock lock.0)) file (Lock lock.0) (locks_beside is_beside locks ++ rest) apart.0 (others-locks is_beside file locks rest apart.1 others))

above-apart : (name : List ℕ) (locks : LockTexts) → AllByRecursion (λ other. slice_cmp nat_cmp name other ≡ Less) (map (λ lock. lock.0) locks)
    → AllByRecursion (λ lock. file_name name ≡ file_name lock.0 → ⊥) locks
above-apart name [] above = tt
above-apart name (lock ∷ locks) above = (
  λ same. not-below name (subst (λ (n : List ℕ). slice_cmp nat_cmp name n ≡ Less) (sym (one-target name lock.0 same)) above.0),
  above-apart name locks above.1,
)

locks-in_front : (is_beside : InputFile → Bool) (h : Held) (locks : LockTexts) (rest : List InputFile) → IsStrictlySortedBy (slice_cmp nat_cmp) (map (λ lock. lock.0) locks) → LocksStandAt is_beside h locks
    → ((name : List ℕ) → Others (Lock name) rest) → Stand h rest → Stand h (locks_beside is_beside locks ++ rest)
locks-in_front is_beside h [] rest rise are apart stand = stand
locks-in_front is_beside h (lock ∷ locks) rest rise are apart stand =
    subst (Stand h) (sym (append_assoc (one_where (is_beside (Lock lock.0)) (Lock lock.0)) (locks_beside is_beside locks) rest))
    (in_front (is_beside (Lock lock.0)) h (Lock lock.0) lock.1 (locks_beside is_beside locks ++ rest) are.0
    (others-locks is_beside (Lock lock.0) locks rest (above-apart lock.0 locks (sorted_head (slice_cmp nat_cmp) lock.0 (map (λ l. l.0) locks) rise)) (apart lock.0))
    (locks-in_front is_beside h locks rest (sorted_tail (slice_cmp nat_cmp) lock.0 (map (λ l. l.0) locks) rise) are.1 apart stand))

-- ---- all

each : {X : Type 0} (P : X → Type 0) (xs : List X) → ((x : X) → P x) → AllByRecursion P xs
each P [] all = tt
each P (x ∷ xs) all = (all x, each P xs all)

last-other : (is_beside : Bool) (file : InputFile) → (name_of file ≡ codes "reqlock.journal" → ⊥) → Others file (one_where is_beside Journal)
last-other true file apart = (apart, tt)
last-other false file apart = tt

-- those files that were read beside their places stand there in turn
pub taken_stand : (beside : Beside) (files : SavedFiles) (h : Held) → IsOrdered (slice_cmp nat_cmp) files.locks → StandAt (has beside) h (bytes_read files) → FilesStandBeside (taken_from beside files) h
taken_stand beside files h rise stand =
    in_turn_beside (taken_from beside files) h (subst (Stand h) (sym (append_assoc front locks last))
    (in_front beside.requirements h Requirements files.requirements.items (locks ++ last) stand.requirements
    (others-locks (has beside) Requirements files.locks.entries last (each (λ (lock : List ℕ × List ℕ). codes "requirements.txt" ≡ file_name lock.0 → ⊥) files.locks.entries (λ lock same. requirements-apart lock.0 (sym same)))
    (last-other beside.journal Requirements (λ same. cc same)))
    (locks-in_front (has beside) h files.locks.entries last rise stand.locks (λ name. last-other beside.journal (Lock name) (journal-apart name))
    (subst (Stand h) (append-nil last) (in_front beside.journal h Journal files.journal [] stand.journal tt tt)))))
  where
    front : List InputFile
    front = one_where beside.requirements Requirements

    locks : List InputFile
    locks = locks_beside (has beside) files.locks.entries

    last : List InputFile
    last = one_where beside.journal Journal

-- ---- one lock more

equal-names : (a b : List ℕ) → slice_cmp nat_cmp a b ≡ Equal → a ≡ b
equal-names a b same = (bytes_eq-Decides a b).0 (sym (is_eq-slice_cmp a b) ∙ ap (λ (o : Ordering). is_eq o) same)

placed-more : (P : List ℕ × List ℕ → Type 0) (o : Ordering) (name bytes : List ℕ) (lock : List ℕ × List ℕ) (locks more : LockTexts) → P (name, bytes) → (o ≡ Equal → P (lock.0, bytes))
    → AllByRecursion P (lock ∷ locks) → AllByRecursion P more → AllByRecursion P (match_ordering o ((name, bytes) ∷ lock ∷ locks) ((lock.0, bytes) ∷ locks) (lock ∷ more))
placed-more P Less name bytes lock locks more new same all rest = (new, all)
placed-more P Equal name bytes lock locks more new same all rest = (same refl, all.1)
placed-more P Greater name bytes lock locks more new same all rest = (all.0, rest)

-- a lock that stands there stands with those that do
pub one_lock_more : (is_beside : InputFile → Bool) (h : Held) (locks : LockTexts) (name bytes : List ℕ) → LocksStandAt is_beside h locks → standing (is_beside (Lock name)) h (Lock name) ≡ Some bytes
    → LocksStandAt is_beside h (insert_entry (slice_cmp nat_cmp) locks name bytes)
one_lock_more is_beside h [] name bytes are is = (is, tt)
one_lock_more is_beside h (lock ∷ locks) name bytes are is =
    placed-more (λ (l : List ℕ × List ℕ). standing (is_beside (Lock l.0)) h (Lock l.0) ≡ Some l.1) (slice_cmp nat_cmp name lock.0) name bytes lock locks (insert_entry (slice_cmp nat_cmp) locks name bytes)
    is (λ same. subst (λ (n : List ℕ). standing (is_beside (Lock n)) h (Lock n) ≡ Some bytes) (equal-names name lock.0 same) is)
    are (one_lock_more is_beside h locks name bytes are.1 is)
