-- A save puts all that it saves into the places of a folder.
use Rattle.std.proofs.Common.{◌≡◌, ◌∙◌, ◌||◌, ◌++◌, ℕ, Bool, true, false, List, [], ◌∷◌, Option, Some, None, ap, arith, inl, inr, length, map, refl, sym, true≢false}
use Rattle.std.proofs.lemmas.Bool.{cases_Bool}
use Rattle.std.proofs.lemmas.List.{length-append}
use Rattle.std.proofs.lemmas.Slice.Eq.{bytes_eq-Decides}
use Rattle.std.specs.BTreeMap.{is_at}
use Rattle.std.specs.Cmp.Lexicographic.{slice_cmp}
use Rattle.std.specs.List.{AllByRecursion}
use Rattle.std.specs.List.Sorted.{IsStrictlySortedBy}
use Rattle.std.specs.Map.{lookup}
use Rattle.std.specs.Option.{option_map_or}
use Rattle.std.specs.Ordering.{nat_cmp}
use Rattle.std.specs.Prelude.{◌==◌, codes, is_some, not}
use Rattle.std.specs.Str.{bytes_eq}
use Rattle.states.specs.TargetNames.{file_name}
use Rattle.folder.proofs.Names.{or_left_false, same_name}
use Rattle.folder.specs.Held.{Files, Held, is_among}
use Rattle.folder.specs.Saves.{NewFileParts, saved, with_all, without_all}
use Rattle.inputs.specs.FileNames.{name_of}
use Rattle.inputs.specs.declared.input_files.InputFile.{InputFile}
use Rattle.inputs.specs.declared.input_files.InputFile.TheVariants.{Requirements, Lock, Journal}
use Rattle.journal.specs.Changes.{HistoryParts}
use Rattle.journal.specs.Locks.{LockTexts}
use Rattle.journal.specs.Saved.{IsSaved}
use Rattle.journal.specs.declared.saved.Saved.{Saved}
use Rattle.files.proofs.NamesApart.{AreOther, either-false, journal-apart, locks_of, names, one-target, others, requirements-apart, rewrites-apart}
use Rattle.files.proofs.StateFacts.{or_true}
use Rattle.files.proofs.WrittenOrGone.{Has, all-from, all-in, at, found-same, going-in, has-first, has-last, has-mapped, holds-written, is-gone, keeps-other, lock-written, lookup-in, lookup-out, names_in, not-going, not-written, others-in, rewrite, written-here}
use Rattle.files.specs.Beside.{one_where}
use Rattle.files.specs.NamedRewrites.{new_file}
use Rattle.files.specs.Places.{AreInPlace, AreKnown, FileBytes, bytes_read, bytes_saved}
use Rattle.files.specs.RewriteParts.{RewriteParts}
use Rattle.files.specs.Rewrites.{going_of, gone_among, has_lock, is_known, is_left, rewrites_of, rewriting}
use Rattle.files.specs.declared.saved_files.SavedFiles.{SavedFiles}

files-apart : codes "reqlock.journal" ≡ codes "requirements.txt" → ⊥
files-apart same = cc same

not-true : (b : Bool) → b ≡ true → b ≡ false → ⊥
not-true b is other = true≢false (sym is ∙ other)

-- ---- the parts of what is written

abbrev is_old : SavedFiles → List ℕ × List ℕ → Bool
is_old files lock = is_left files true lock.0 lock.1

abbrev is_new : SavedFiles → List ℕ × List ℕ → Bool
is_new files lock = is_left files false lock.0 lock.1

abbrev writes_of : SavedFiles → Saved → List NewFileParts
writes_of files new = map new_file (rewrites_of files new)

abbrev placed_after : SavedFiles → Saved → Held → Files
placed_after files new old = with_all (writes_of files new) (without_all (names_in (going_of files new)) old.placed)

-- a lock that was read is known
known-found : (files : SavedFiles) (name bytes : List ℕ) → lookup (at name) files.locks.entries ≡ Some bytes → is_known files name ≡ true
known-found files name bytes found =
    ap (λ (o : Option (List ℕ)). length files.locks.entries == 0 || is_some o) found ∙ or_true (length files.locks.entries == 0)

module _ (files : SavedFiles) (new : Saved) where
  abbrev front : List RewriteParts
  front = rewriting (bytes_eq files.requirements.items new.requirements) Requirements new.requirements

  abbrev olds : List RewriteParts
  olds = locks_of (is_old files) new.locks.entries

  abbrev middle : List RewriteParts
  middle = rewriting (bytes_eq files.journal new.journal) Journal new.journal

  abbrev news : List RewriteParts
  news = locks_of (is_new files) new.locks.entries

  -- a name that isn't written
  no-write : (name : List ℕ) → (bytes_eq files.requirements.items new.requirements ≡ false → codes "requirements.txt" ≡ name → ⊥) → AreOther (is_old files) name new.locks.entries
      → (bytes_eq files.journal new.journal ≡ false → codes "reqlock.journal" ≡ name → ⊥) → AreOther (is_new files) name new.locks.entries → is_among (names (rewrites_of files new)) name ≡ false
  no-write name = not-written (bytes_eq files.requirements.items new.requirements) (bytes_eq files.journal new.journal) (is_old files) (is_new files) new.requirements new.journal new.locks.entries name

  requirements-written : bytes_eq files.requirements.items new.requirements ≡ false → Has (rewrite Requirements new.requirements) (rewrites_of files new)
  requirements-written differ =
      let file = rewrite Requirements new.requirements in
      has-first file (front ++ olds ++ middle) news (has-first file (front ++ olds) middle (has-first file front olds (written-here (bytes_eq files.requirements.items new.requirements) Requirements new.requirements differ)))

  journal-written : bytes_eq files.journal new.journal ≡ false → Has (rewrite Journal new.journal) (rewrites_of files new)
  journal-written differ =
      let file = rewrite Journal new.journal in
      has-first file (front ++ olds ++ middle) news (has-last file (front ++ olds) middle (written-here (bytes_eq files.journal new.journal) Journal new.journal differ))

  old-written : (lock : List ℕ × List ℕ) → Has lock new.locks.entries → is_old files lock ≡ false → Has (rewrite (Lock lock.0) lock.1) (rewrites_of files new)
  old-written lock has left =
      let file = rewrite (Lock lock.0) lock.1 in
      has-first file (front ++ olds ++ middle) news (has-first file (front ++ olds) middle (has-last file front olds (lock-written (is_old files) lock new.locks.entries has left)))

  new-written : (lock : List ℕ × List ℕ) → Has lock new.locks.entries → is_new files lock ≡ false → Has (rewrite (Lock lock.0) lock.1) (rewrites_of files new)
  new-written lock has left = has-last (rewrite (Lock lock.0) lock.1) (front ++ olds ++ middle) news (lock-written (is_new files) lock new.locks.entries has left)

-- ---- where the locks rise by their targets

module _ (files : SavedFiles) (new : Saved) (old : Held) (rise : IsStrictlySortedBy (slice_cmp nat_cmp) (map (λ lock. lock.0) new.locks.entries)) where
  -- what is written stands in its place
  written : (file : InputFile) (bytes : List ℕ) → Has (rewrite file bytes) (rewrites_of files new) → placed_after files new old (name_of file) ≡ Some bytes
  written file bytes has =
      holds-written (writes_of files new) (without_all (names_in (going_of files new)) old.placed) (new_file (rewrite file bytes)) (rewrites-apart files new rise)
      (has-mapped (λ (r : RewriteParts). new_file r) (rewrite file bytes) (rewrites_of files new) has)

  -- what is neither written nor goes stays
  stays : (name : List ℕ) → is_among (names (rewrites_of files new)) name ≡ false → ((lock : List ℕ × List ℕ) → lookup (at lock.0) new.locks.entries ≡ None → file_name lock.0 ≡ name → ⊥)
      → placed_after files new old name ≡ old.placed name
  stays name other apart = keeps-other (writes_of files new) (names_in (going_of files new)) old name other (not-going new files.locks.entries name apart)

  no-lock : (name : List ℕ) → ((target : List ℕ) → file_name target ≡ name → ⊥) → (is_left : List ℕ × List ℕ → Bool) → AreOther is_left name new.locks.entries
  no-lock name apart is_left = others is_left name new.locks.entries (λ lock left. apart lock.0)

  requirements-in_place : AreKnown old (bytes_read files) → placed_after files new old (codes "requirements.txt") ≡ Some new.requirements
  requirements-in_place known = elim (cases_Bool (bytes_eq files.requirements.items new.requirements)) [
    | inl same ↦
        stays (codes "requirements.txt")
        (no-write files new (codes "requirements.txt") (λ differ is. not-true (bytes_eq files.requirements.items new.requirements) same differ) (no-lock (codes "requirements.txt") requirements-apart (is_old files))
        (λ differ. files-apart) (no-lock (codes "requirements.txt") requirements-apart (is_new files)))
        (λ lock none. requirements-apart lock.0)
        ∙ known.requirements ∙ ap (λ (bytes : List ℕ). Some bytes) ((bytes_eq-Decides files.requirements.items new.requirements).0 same)
    | inr differ ↦ written Requirements new.requirements (requirements-written files new differ)
  ]

  journal-in_place : AreKnown old (bytes_read files) → (new.journal ≡ [] → ⊥) → placed_after files new old (codes "reqlock.journal") ≡ Some new.journal
  journal-in_place known some = elim (cases_Bool (bytes_eq files.journal new.journal)) [
    | inl same ↦
        let one : files.journal ≡ new.journal = (bytes_eq-Decides files.journal new.journal).0 same in
        elim known.journal [
          | inl there ↦
              stays (codes "reqlock.journal")
              (no-write files new (codes "reqlock.journal") (λ differ is. files-apart (sym is)) (no-lock (codes "reqlock.journal") journal-apart (is_old files))
              (λ differ is. not-true (bytes_eq files.journal new.journal) same differ) (no-lock (codes "reqlock.journal") journal-apart (is_new files)))
              (λ lock none. journal-apart lock.0)
              ∙ there ∙ ap (λ (bytes : List ℕ). Some bytes) one
          | inr empty ↦ absurd (some (sym one ∙ empty))
        ]
    | inr differ ↦ written Journal new.journal (journal-written files new differ)
  ]

  -- locks of one target hold the same bytes
  one-lock : (a b : List ℕ × List ℕ) → Has a new.locks.entries → Has b new.locks.entries → a.0 ≡ b.0 → a.1 ≡ b.1
  one-lock a b here there target =
      let both : Some a.1 ≡ Some b.1 =
      sym (lookup-in a new.locks.entries rise here) ∙ ap (λ (n : List ℕ). lookup (at n) new.locks.entries) target ∙ lookup-in b new.locks.entries rise there
      in
      cc

  -- no lock that is saved goes
  none-goes : (lock : List ℕ × List ℕ) → Has lock new.locks.entries → (gone : List ℕ × List ℕ) → lookup (at gone.0) new.locks.entries ≡ None → file_name gone.0 ≡ file_name lock.0 → ⊥
  none-goes lock has gone none same =
      let both : None ≡ Some lock.1 =
      sym none ∙ ap (λ (n : List ℕ). lookup (at n) new.locks.entries) (one-target gone.0 lock.0 same) ∙ lookup-in lock new.locks.entries rise has
      in
      cc both

  -- a lock that was read as it is saved is not written
  read-lock : (lock : List ℕ × List ℕ) → Has lock new.locks.entries → has_lock files lock.0 lock.1 ≡ true → is_among (names (rewrites_of files new)) (file_name lock.0) ≡ false
  read-lock lock has read =
      no-write files new (file_name lock.0) (λ differ is. requirements-apart lock.0 (sym is))
      (others-in (is_old files) (file_name lock.0) new.locks.entries (λ other is left same.
      not-true (has_lock files other.0 other.1) (has-same other is same) (or_left_false (has_lock files other.0 other.1) (not (is_known files other.0)) left)))
      (λ differ is. journal-apart lock.0 (sym is))
      (others-in (is_new files) (file_name lock.0) new.locks.entries (λ other is left same. not-true (is_known files other.0) (is-known other is same) left))
    where
      has-same : (other : List ℕ × List ℕ) → Has other new.locks.entries → file_name other.0 ≡ file_name lock.0 → has_lock files other.0 other.1 ≡ true
      has-same other is same =
          let target : other.0 ≡ lock.0 = one-target other.0 lock.0 same in
          ap (λ (n : List ℕ). has_lock files n other.1) target ∙ ap (λ (bytes : List ℕ). has_lock files lock.0 bytes) (one-lock other lock is has target) ∙ read

      is-known : (other : List ℕ × List ℕ) → Has other new.locks.entries → file_name other.0 ≡ file_name lock.0 → is_known files other.0 ≡ true
      is-known other is same = known-found files other.0 other.1 (found-same (lookup (at other.0) files.locks.entries) other.1 (has-same other is same))

  lock-in_place : AreKnown old (bytes_read files) → (lock : List ℕ × List ℕ) → Has lock new.locks.entries → placed_after files new old (file_name lock.0) ≡ Some lock.1
  lock-in_place known lock has = elim (cases_Bool (has_lock files lock.0 lock.1)) [
    | inl read ↦
        stays (file_name lock.0) (read-lock lock has read) (none-goes lock has)
        ∙ all-in (λ (l : List ℕ × List ℕ). old.placed (file_name l.0) ≡ Some l.1) (lock.0, lock.1) files.locks.entries known.locks
        (lookup-out lock.0 lock.1 files.locks.entries (found-same (lookup (at lock.0) files.locks.entries) lock.1 read))
    | inr other ↦ elim (cases_Bool (is_known files lock.0)) [
      | inl there ↦
          written (Lock lock.0) lock.1
          (old-written files new lock has (either-false (has_lock files lock.0 lock.1) (not (is_known files lock.0)) other (ap (λ (b : Bool). not b) there)))
      | inr comes ↦ written (Lock lock.0) lock.1 (new-written files new lock has comes)
    ]
  ]

-- ---- a save

-- all that is saved stands in its place
pub a_save_puts_all_into_place : (files : SavedFiles) (new : Saved) (old : Held) → AreKnown old (bytes_read files) → IsStrictlySortedBy (slice_cmp nat_cmp) (map (λ lock. lock.0) new.locks.entries)
    → (new.journal ≡ [] → ⊥) → AreInPlace (saved (map new_file (rewrites_of files new)) (map (λ file. name_of file) (going_of files new)) old) (bytes_saved new)
a_save_puts_all_into_place files new old known rise some = record {
  requirements = requirements-in_place files new old rise known;
  locks = all-from (λ (lock : List ℕ × List ℕ). placed_after files new old (file_name lock.0) ≡ Some lock.1) new.locks.entries (lock-in_place files new old rise known);
  journal = journal-in_place files new old rise known some;
}

-- a lock that was read is gone where the saved files have none for its target
pub a_lock_that_goes_is_gone : (files : SavedFiles) (new : Saved) (old : Held) → IsStrictlySortedBy (slice_cmp nat_cmp) (map (λ lock. lock.0) new.locks.entries)
    → AllByRecursion (λ lock. lookup (is_at (slice_cmp nat_cmp lock.0)) new.locks.entries ≡ None
    → (saved (map new_file (rewrites_of files new)) (map (λ file. name_of file) (going_of files new)) old).placed (name_of (Lock lock.0)) ≡ None) files.locks.entries
a_lock_that_goes_is_gone files new old rise =
    all-from (λ (lock : List ℕ × List ℕ). lookup (at lock.0) new.locks.entries ≡ None → placed_after files new old (file_name lock.0) ≡ None) files.locks.entries (λ lock has none.
    is-gone (writes_of files new) (names_in (going_of files new)) old (file_name lock.0)
    (no-write files new (file_name lock.0) (λ differ is. requirements-apart lock.0 (sym is)) (unsaved lock none (is_old files)) (λ differ is. journal-apart lock.0 (sym is)) (unsaved lock none (is_new files)))
    (going-in new lock files.locks.entries none has))
  where
    unsaved : (lock : List ℕ × List ℕ) → lookup (at lock.0) new.locks.entries ≡ None → (is_left : List ℕ × List ℕ → Bool) → AreOther is_left (file_name lock.0) new.locks.entries
    unsaved lock none is_left = others-in is_left (file_name lock.0) new.locks.entries (λ other is left same. none-goes files new old rise other is lock none (sym same))

-- a file that is none of a history keeps what stands in its place
pub a_save_leaves_all_others : (files : SavedFiles) (new : Saved) (old : Held) (name : List ℕ) → (name_of Requirements ≡ name → ⊥) → (name_of Journal ≡ name → ⊥)
    → ((target : List ℕ) → name_of (Lock target) ≡ name → ⊥)
    → (saved (map new_file (rewrites_of files new)) (map (λ file. name_of file) (going_of files new)) old).placed name ≡ old.placed name
a_save_leaves_all_others files new old name requirements journal lock =
    keeps-other (writes_of files new) (names_in (going_of files new)) old name
    (no-write files new name (λ differ. requirements) (none (is_old files)) (λ differ. journal) (none (is_new files)))
    (not-going new files.locks.entries name (λ l goes. lock l.0))
  where
    none : (is_left : List ℕ × List ℕ → Bool) → AreOther is_left name new.locks.entries
    none is_left = others is_left name new.locks.entries (λ l left. lock l.0)

-- ---- where all that is saved was read

none-left : (is_left : List ℕ × List ℕ → Bool) (locks : LockTexts) → AllByRecursion (λ lock. is_left lock ≡ true) locks → locks_of is_left locks ≡ []
none-left is_left [] all = refl
none-left is_left (lock ∷ locks) all = ap (λ (b : Bool). rewriting b (Lock lock.0) lock.1 ++ locks_of is_left locks) all.0 ∙ none-left is_left locks all.1

none-gone : (new : Saved) (locks : LockTexts) → AllByRecursion (λ lock. is_some (lookup (at lock.0) new.locks.entries) ≡ true) locks → gone_among new locks ≡ []
none-gone new [] all = refl
none-gone new (lock ∷ locks) all = ap (λ (b : Bool). one_where (not b) (Lock lock.0) ++ gone_among new locks) all.0 ∙ none-gone new locks all.1

-- it is not written, and nothing goes
pub what_was_read_is_left : (files : SavedFiles) (new : Saved) → IsStrictlySortedBy (slice_cmp nat_cmp) (map (λ lock. lock.0) new.locks.entries) → bytes_read files ≡ bytes_saved new
    → (rewrites_of files new ≡ []) × (going_of files new ≡ [])
what_was_read_is_left files new rise same = (
  λ i. requirements i ++ old i ++ journal i ++ late i,
  ap (λ (locks : LockTexts). gone_among new locks) locks ∙ none-gone new new.locks.entries (all-from (λ (lock : List ℕ × List ℕ). is_some (lookup (at lock.0) new.locks.entries) ≡ true) new.locks.entries (λ lock has.
      ap (λ (found : Option (List ℕ)). is_some found) (lookup-in lock new.locks.entries rise has))),
)
  where
    locks : files.locks.entries ≡ new.locks.entries
    locks = ap (λ (bytes : FileBytes). bytes.locks) same

    requirements : rewriting (bytes_eq files.requirements.items new.requirements) Requirements new.requirements ≡ []
    requirements = ap (λ (b : Bool). rewriting b Requirements new.requirements) ((bytes_eq-Decides files.requirements.items new.requirements).1 (ap (λ (bytes : FileBytes). bytes.requirements) same))

    journal : rewriting (bytes_eq files.journal new.journal) Journal new.journal ≡ []
    journal = ap (λ (b : Bool). rewriting b Journal new.journal) ((bytes_eq-Decides files.journal new.journal).1 (ap (λ (bytes : FileBytes). bytes.journal) same))

    found : (lock : List ℕ × List ℕ) → Has lock new.locks.entries → lookup (at lock.0) files.locks.entries ≡ Some lock.1
    found lock has = ap (λ (texts : LockTexts). lookup (at lock.0) texts) locks ∙ lookup-in lock new.locks.entries rise has

    old : locks_of (is_old files) new.locks.entries ≡ []
    old = none-left (is_old files) new.locks.entries (all-from (λ (lock : List ℕ × List ℕ). is_old files lock ≡ true) new.locks.entries (λ lock has.
        ap (λ (b : Bool). b || not (is_known files lock.0)) (ap (λ (o : Option (List ℕ)). option_map_or (λ (bytes : List ℕ). bytes_eq bytes lock.1) o false) (found lock has) ∙ same_name lock.1)))

    late : locks_of (is_new files) new.locks.entries ≡ []
    late = none-left (is_new files) new.locks.entries (all-from (λ (lock : List ℕ × List ℕ). is_new files lock ≡ true) new.locks.entries (λ lock has. known-found files lock.0 lock.1 (found lock has)))

-- ---- a journal that is saved

-- a journal begins with a header's line
pub a_saved_journal_has_bytes : (history : HistoryParts) (new : Saved) → IsSaved history new → new.journal ≡ [] → ⊥
a_saved_journal_has_bytes history new is empty =
    let none : length new.journal ≡ 0 = ap (λ (bytes : List ℕ). length bytes) empty in
    let long = simp length-append at (ap (λ (bytes : List ℕ). length bytes) is.journal) in
    omega (arith, long)
