-- The names of files that are rewritten differ.
use Rattle.std.proofs.Common.{◌≡◌, ◌∙◌, ◌+◌, ◌||◌, ◌++◌, ℕ, Bool, true, false, List, [], ◌∷◌, Less, append_assoc, append-nil, ap, arith, get_or, inl, inr, length, map, refl, subst, sym}
use Rattle.std.proofs.lemmas.Bool.{cases_Bool}
use Rattle.std.proofs.lemmas.List.{append_cancel_left, append_cancel_right, length-append}
use Rattle.std.proofs.lemmas.Map.Keys.{sorted_head, sorted_tail}
use Rattle.std.proofs.lemmas.Slice.Eq.{bytes_eq-Decides}
use Rattle.std.specs.BTreeMap.{IsOrdered}
use Rattle.std.specs.Cmp.Lexicographic.{slice_cmp}
use Rattle.std.specs.List.{AllByRecursion, flat_map}
use Rattle.std.specs.List.Sorted.{IsStrictlySortedBy}
use Rattle.std.specs.Ordering.{nat_cmp}
use Rattle.std.specs.Prelude.{codes, not}
use Rattle.std.specs.Str.{bytes_eq}
use Rattle.states.proofs.EntryFacts.{not-below}
use Rattle.states.specs.TargetNames.{file_name}
use Rattle.folder.specs.Held.{is_among}
use Rattle.folder.specs.Saves.{names_of}
use Rattle.inputs.specs.FileNames.{name_of}
use Rattle.inputs.specs.declared.input_files.InputFile.{InputFile}
use Rattle.inputs.specs.declared.input_files.InputFile.TheVariants.{Requirements, Lock, Journal}
use Rattle.journal.specs.declared.saved.Saved.{Saved}
use Rattle.files.specs.NamedRewrites.{AreNamedApart, new_file}
use Rattle.files.specs.RewriteParts.{RewriteParts}
use Rattle.files.specs.Rewrites.{has_lock, is_known, is_left, rewrites_of, rewriting}
use Rattle.files.specs.declared.saved_files.SavedFiles.{SavedFiles}

-- ---- names of files

empty-apart : (b : ℕ) (rest : List ℕ) → codes "pylock.toml" ≡ codes "pylock." ++ b ∷ rest ++ codes ".toml" → ⊥
empty-apart b rest same =
    let long : length (codes "pylock.toml") ≡ length (codes "pylock." ++ b ∷ rest ++ codes ".toml") = ap length same in
    let end : length (codes "pylock." ++ b ∷ rest ++ codes ".toml") ≡ length (codes "pylock." ++ b ∷ rest) + 5 = length-append (codes "pylock." ++ b ∷ rest) (codes ".toml") in
    let front : length (codes "pylock." ++ b ∷ rest) ≡ 7 + length (b ∷ rest) = length-append (codes "pylock.") (b ∷ rest) in
    let here : length (codes "pylock.toml") ≡ 11 = refl in
    omega arith

-- targets whose locks have one name are one
pub one-target : (a b : List ℕ) → file_name a ≡ file_name b → a ≡ b
one-target [] [] same = refl
one-target [] (b ∷ bs) same = absurd (empty-apart b bs same)
one-target (a ∷ more) [] same = absurd (empty-apart a more (sym same))
one-target (a ∷ more) (b ∷ bs) same =
    append_cancel_left (codes "pylock.") (a ∷ more) (b ∷ bs) (append_cancel_right (codes "pylock." ++ a ∷ more) (codes "pylock." ++ b ∷ bs) (codes ".toml") same)

-- a lock's name begins as no other file's
first-byte : (target : List ℕ) → get_or (file_name target) 0 0 ≡ 112
first-byte [] = refl
first-byte (b ∷ rest) = refl

not-both : (byte : ℕ) → byte ≡ 112 → byte ≡ 114 → ⊥
not-both byte one other = omega arith

pub requirements-apart : (target : List ℕ) → file_name target ≡ codes "requirements.txt" → ⊥
requirements-apart target same = not-both (get_or (file_name target) 0 0) (first-byte target) (ap (λ (name : List ℕ). get_or name 0 0) same)

pub journal-apart : (target : List ℕ) → file_name target ≡ codes "reqlock.journal" → ⊥
journal-apart target same = not-both (get_or (file_name target) 0 0) (first-byte target) (ap (λ (name : List ℕ). get_or name 0 0) same)

-- ---- a file in front of others

abbrev pub names : List RewriteParts → List (List ℕ)
names rewrites = names_of (map new_file rewrites)

pub either-false : (a b : Bool) → a ≡ false → b ≡ false → a || b ≡ false
either-false true b is other = absurd (cc is)
either-false false b is other = other

pub differs : (a b : List ℕ) → (a ≡ b → ⊥) → bytes_eq a b ≡ false
differs a b apart = elim (cases_Bool (bytes_eq a b)) [
  | inl same ↦ absurd (apart ((bytes_eq-Decides a b).0 same))
  | inr other ↦ other
]

-- a name that others don't have
pub new-name : (is_same : Bool) (file : InputFile) (bytes : List ℕ) (rest : List RewriteParts) (name : List ℕ) → (is_same ≡ false → name_of file ≡ name → ⊥) → is_among (names rest) name ≡ false
    → is_among (names (rewriting is_same file bytes ++ rest)) name ≡ false
new-name true file bytes rest name apart other = other
new-name false file bytes rest name apart other = either-false (bytes_eq (name_of file) name) (is_among (names rest) name) (differs (name_of file) name (apart refl)) other

in-front : (is_same : Bool) (file : InputFile) (bytes : List ℕ) (rest : List RewriteParts) → (is_same ≡ false → is_among (names rest) (name_of file) ≡ false) → AreNamedApart rest
    → AreNamedApart (rewriting is_same file bytes ++ rest)
in-front true file bytes rest new apart = apart
in-front false file bytes rest new apart = (new refl, apart)

-- ---- locks in front of others

abbrev pub locks_of : (List ℕ × List ℕ → Bool) → List (List ℕ × List ℕ) → List RewriteParts
locks_of is_left locks = flat_map (λ lock. rewriting (is_left lock) (Lock lock.0) lock.1) locks

-- none of the locks that aren't left has this name
abbrev pub AreOther : (List ℕ × List ℕ → Bool) → List ℕ → List (List ℕ × List ℕ) → Type 0
AreOther is_left name locks = AllByRecursion (λ lock. is_left lock ≡ false → file_name lock.0 ≡ name → ⊥) locks

pub others : (is_left : List ℕ × List ℕ → Bool) (name : List ℕ) (locks : List (List ℕ × List ℕ)) → ((lock : List ℕ × List ℕ) → is_left lock ≡ false → file_name lock.0 ≡ name → ⊥) → AreOther is_left name locks
others is_left name [] apart = tt
others is_left name (lock ∷ locks) apart = (apart lock, others is_left name locks apart)

others-above : (is_left : List ℕ × List ℕ → Bool) (target : List ℕ) (locks : List (List ℕ × List ℕ)) → AllByRecursion (λ other. slice_cmp nat_cmp target other ≡ Less) (map (λ lock. lock.0) locks)
    → AreOther is_left (file_name target) locks
others-above is_left target [] above = tt
others-above is_left target (lock ∷ locks) above = (
  λ left same. not-below target (subst (λ (n : List ℕ). slice_cmp nat_cmp target n ≡ Less) (one-target lock.0 target same) above.0),
  others-above is_left target locks above.1,
)

pub new-name_of_locks : (is_left : List ℕ × List ℕ → Bool) (locks : List (List ℕ × List ℕ)) (rest : List RewriteParts) (name : List ℕ) → AreOther is_left name locks → is_among (names rest) name ≡ false
    → is_among (names (locks_of is_left locks ++ rest)) name ≡ false
new-name_of_locks is_left [] rest name others other = other
new-name_of_locks is_left (lock ∷ locks) rest name others other =
    subst (λ (l : List RewriteParts). is_among (names l) name ≡ false) (sym (append_assoc (rewriting (is_left lock) (Lock lock.0) lock.1) (locks_of is_left locks) rest))
    (new-name (is_left lock) (Lock lock.0) lock.1 (locks_of is_left locks ++ rest) name others.0 (new-name_of_locks is_left locks rest name others.1 other))

locks-in_front : (is_left : List ℕ × List ℕ → Bool) (locks : List (List ℕ × List ℕ)) (rest : List RewriteParts) → IsStrictlySortedBy (slice_cmp nat_cmp) (map (λ lock. lock.0) locks)
    → ((lock : List ℕ × List ℕ) → is_left lock ≡ false → is_among (names rest) (file_name lock.0) ≡ false) → AreNamedApart rest → AreNamedApart (locks_of is_left locks ++ rest)
locks-in_front is_left [] rest rise new apart = apart
locks-in_front is_left (lock ∷ locks) rest rise new apart =
    subst AreNamedApart (sym (append_assoc (rewriting (is_left lock) (Lock lock.0) lock.1) (locks_of is_left locks) rest))
    (in-front (is_left lock) (Lock lock.0) lock.1 (locks_of is_left locks ++ rest)
    (λ left. new-name_of_locks is_left locks rest (file_name lock.0) (others-above is_left lock.0 locks (sorted_head (slice_cmp nat_cmp) lock.0 (map (λ l. l.0) locks) rise)) (new lock left))
    (locks-in_front is_left locks rest (sorted_tail (slice_cmp nat_cmp) lock.0 (map (λ l. l.0) locks) rise) new apart))

-- ---- all

all-apart : (known : List ℕ → Bool) (first last : List ℕ × List ℕ → Bool) (a b : Bool) (requirements journal : List ℕ) (locks : List (List ℕ × List ℕ))
    → ((lock : List ℕ × List ℕ) → first lock ≡ false → known lock.0 ≡ true) → ((lock : List ℕ × List ℕ) → last lock ≡ false → known lock.0 ≡ false)
    → IsStrictlySortedBy (slice_cmp nat_cmp) (map (λ lock. lock.0) locks)
    → AreNamedApart (rewriting a Requirements requirements ++ locks_of first locks ++ rewriting b Journal journal ++ locks_of last locks)
all-apart known first last a b requirements journal locks is_known is_new rise =
    subst AreNamedApart (sym (append_assoc (front ++ olds) middle news ∙ append_assoc front olds (middle ++ news)))
    (in-front a Requirements requirements (olds ++ (middle ++ news))
    (λ there. new-name_of_locks first locks (middle ++ news) (codes "requirements.txt") (others first (codes "requirements.txt") locks (λ lock left. requirements-apart lock.0))
    (new-name b Journal journal news (codes "requirements.txt") (λ other same. absurd (cc same)) (last-other (codes "requirements.txt") (λ lock left. requirements-apart lock.0))))
    (locks-in_front first locks (middle ++ news) rise
    (λ lock left. new-name b Journal journal news (file_name lock.0) (λ there same. journal-apart lock.0 (sym same)) (last-other (file_name lock.0) (apart-from lock left)))
    (in-front b Journal journal news (λ there. last-other (codes "reqlock.journal") (λ lock left. journal-apart lock.0)) news-apart)))
  where
    front : List RewriteParts
    front = rewriting a Requirements requirements

    middle : List RewriteParts
    middle = rewriting b Journal journal

    olds : List RewriteParts
    olds = locks_of first locks

    news : List RewriteParts
    news = locks_of last locks

    last-other : (name : List ℕ) → ((lock : List ℕ × List ℕ) → last lock ≡ false → file_name lock.0 ≡ name → ⊥) → is_among (names news) name ≡ false
    last-other name apart = subst (λ (l : List RewriteParts). is_among (names l) name ≡ false) (append-nil news) (new-name_of_locks last locks [] name (others last name locks apart) refl)

    apart-from : (old : List ℕ × List ℕ) → first old ≡ false → (lock : List ℕ × List ℕ) → last lock ≡ false → file_name lock.0 ≡ file_name old.0 → ⊥
    apart-from old left lock new same =
        let e : true ≡ false = sym (is_known old left) ∙ sym (ap known (one-target lock.0 old.0 same)) ∙ is_new lock new in
        cc e

    news-apart : AreNamedApart news
    news-apart = subst AreNamedApart (append-nil news) (locks-in_front last locks [] rise (λ lock left. refl) tt)

known-from : (a b : Bool) → a || not b ≡ false → b ≡ true
known-from true b is = absurd (cc is)
known-from false true is = refl
known-from false false is = absurd (cc is)

-- the files that a save rewrites, where the locks are of different targets
pub rewrites-apart : (files : SavedFiles) (saved : Saved) → IsOrdered (slice_cmp nat_cmp) saved.locks → AreNamedApart (rewrites_of files saved)
rewrites-apart files saved rise =
    all-apart (is_known files) (λ lock. is_left files true lock.0 lock.1) (λ lock. is_left files false lock.0 lock.1)
    (bytes_eq files.requirements.items saved.requirements) (bytes_eq files.journal saved.journal) saved.requirements saved.journal saved.locks.entries
    (λ lock left. known-from (has_lock files lock.0 lock.1) (is_known files lock.0) left) (λ lock left. left) rise
