-- Files that are written, that go, or that stay.
use Rattle.std.proofs.Common.{◌≡◌, ◌∙◌, ◌⊎◌, ◌||◌, ◌++◌, ℕ, Bool, true, false, List, [], ◌∷◌, Less, Option, Some, None, append_assoc, append-nil, ap, cond, if◌then◌else◌, inl, inr, map, refl, subst, sym}
use Rattle.std.proofs.lemmas.Bool.{cases_Bool}
use Rattle.std.proofs.lemmas.Map.Keys.{sorted_head, sorted_tail}
use Rattle.std.proofs.lemmas.Map.Text.{is_eq-slice_cmp}
use Rattle.std.proofs.lemmas.Slice.Eq.{bytes_eq-Decides}
use Rattle.std.specs.BTreeMap.{is_at}
use Rattle.std.specs.Cmp.Lexicographic.{slice_cmp}
use Rattle.std.specs.List.{AllByRecursion}
use Rattle.std.specs.List.Sorted.{IsStrictlySortedBy}
use Rattle.std.specs.Map.{lookup}
use Rattle.std.specs.Option.{option_map_or}
use Rattle.std.specs.Ordering.{nat_cmp}
use Rattle.std.specs.Prelude.{codes, is_some, not}
use Rattle.std.specs.Str.{bytes_eq}
use Rattle.states.proofs.EntryFacts.{not-below}
use Rattle.states.specs.TargetNames.{file_name}
use Rattle.folder.proofs.Names.{same_name, with_all-miss, with_this, without_all-at}
use Rattle.folder.specs.Held.{Files, Held, is_among, with_file}
use Rattle.folder.specs.Saves.{AreApart, NewFileParts, names_of, with_all, without_all}
use Rattle.inputs.specs.FileNames.{name_of}
use Rattle.inputs.specs.declared.input_files.InputFile.{InputFile}
use Rattle.inputs.specs.declared.input_files.InputFile.TheVariants.{Requirements, Lock, Journal}
use Rattle.journal.specs.Locks.{LockTexts}
use Rattle.journal.specs.declared.saved.Saved.{Saved}
use Rattle.files.proofs.NamesApart.{AreOther, differs, either-false, locks_of, names, new-name, new-name_of_locks}
use Rattle.files.proofs.StateFacts.{or_true}
use Rattle.files.specs.Beside.{one_where}
use Rattle.files.specs.RewriteParts.{RewriteParts}
use Rattle.files.specs.Rewrites.{gone_among, rewriting}

-- ---- items of lists

-- an item is one of a list
abbrev pub Has : {X : Type 0} → X → List X → Type 0
Has x [] = ⊥
Has x (y ∷ ys) = (x ≡ y) ⊎ Has x ys

pub has-first : {X : Type 0} (x : X) (xs ys : List X) → Has x xs → Has x (xs ++ ys)
has-first x [] ys has = absurd has
has-first x (y ∷ xs) ys (inl same) = inl same
has-first x (y ∷ xs) ys (inr more) = inr (has-first x xs ys more)

pub has-last : {X : Type 0} (x : X) (xs ys : List X) → Has x ys → Has x (xs ++ ys)
has-last x [] ys has = has
has-last x (y ∷ xs) ys has = inr (has-last x xs ys has)

pub has-mapped : {X Y : Type 0} (f : X → Y) (x : X) (xs : List X) → Has x xs → Has (f x) (map f xs)
has-mapped f x [] has = absurd has
has-mapped f x (y ∷ xs) (inl same) = inl (ap f same)
has-mapped f x (y ∷ xs) (inr more) = inr (has-mapped f x xs more)

-- what holds of all holds of each, and the other way round
pub all-in : {X : Type 0} (P : X → Type 0) (x : X) (xs : List X) → AllByRecursion P xs → Has x xs → P x
all-in P x [] all has = absurd has
all-in P x (y ∷ xs) all (inl same) = subst P (sym same) all.0
all-in P x (y ∷ xs) all (inr more) = all-in P x xs all.1 more

pub all-from : {X : Type 0} (P : X → Type 0) (xs : List X) → ((x : X) → Has x xs → P x) → AllByRecursion P xs
all-from P [] each = tt
all-from P (x ∷ xs) each = (each x (inl refl), all-from P xs (λ y has. each y (inr has)))

-- ---- locks that are looked up

abbrev pub at : List ℕ → List ℕ → Bool
at name = is_at (slice_cmp nat_cmp name)

at-self : (name : List ℕ) → at name name ≡ true
at-self name = is_eq-slice_cmp name name ∙ same_name name

from-at : (name other : List ℕ) → at name other ≡ true → name ≡ other
from-at name other is = (bytes_eq-Decides name other).0 (sym (is_eq-slice_cmp name other) ∙ is)

at-above : (name other : List ℕ) → slice_cmp nat_cmp other name ≡ Less → at name other ≡ false
at-above name other above = elim (cases_Bool (at name other)) [
  | inl is ↦ absurd (not-below other (subst (λ (n : List ℕ). slice_cmp nat_cmp other n ≡ Less) (from-at name other is) above))
  | inr differ ↦ differ
]

-- a look-up finds each lock of a target
pub lookup-in : (lock : List ℕ × List ℕ) (locks : LockTexts) → IsStrictlySortedBy (slice_cmp nat_cmp) (map (λ l. l.0) locks) → Has lock locks → lookup (at lock.0) locks ≡ Some lock.1
lookup-in lock [] rise has = absurd has
lookup-in lock (other ∷ locks) rise (inl same) =
    subst (λ (o : List ℕ × List ℕ). cond (at lock.0 o.0) (Some o.1) (lookup (at lock.0) locks) ≡ Some lock.1) same
    (ap (λ (b : Bool). cond b (Some lock.1) (lookup (at lock.0) locks)) (at-self lock.0))
lookup-in lock (other ∷ locks) rise (inr more) =
    let above : slice_cmp nat_cmp other.0 lock.0 ≡ Less =
    all-in (λ (n : List ℕ). slice_cmp nat_cmp other.0 n ≡ Less) lock.0 (map (λ l. l.0) locks) (sorted_head (slice_cmp nat_cmp) other.0 (map (λ l. l.0) locks) rise) (has-mapped (λ (l : List ℕ × List ℕ). l.0) lock locks more)
    in
    ap (λ (b : Bool). cond b (Some other.1) (lookup (at lock.0) locks)) (at-above lock.0 other.0 above)
    ∙ lookup-in lock locks (sorted_tail (slice_cmp nat_cmp) other.0 (map (λ l. l.0) locks) rise) more

pair : (lock : List ℕ × List ℕ) (name bytes : List ℕ) → name ≡ lock.0 → bytes ≡ lock.1 → (name, bytes) ≡ lock
pair lock name bytes p q i = (p i, q i)

some-same : (a b : List ℕ) → Some a ≡ Some b → a ≡ b
some-same a b same = cc

-- what a look-up finds is one of the locks
pub lookup-out : (name bytes : List ℕ) (locks : LockTexts) → lookup (at name) locks ≡ Some bytes → Has (name, bytes) locks
lookup-out name bytes [] is = absurd (cc is)
lookup-out name bytes (lock ∷ locks) is = elim (cases_Bool (at name lock.0)) [
  | inl same ↦
      let found : Some lock.1 ≡ Some bytes = ap (λ (b : Bool). cond b (Some lock.1) (lookup (at name) locks)) (sym same) ∙ is in
      inl (pair lock name bytes (from-at name lock.0 same) (sym (some-same lock.1 bytes found)))
  | inr differ ↦ inr (lookup-out name bytes locks (ap (λ (b : Bool). cond b (Some lock.1) (lookup (at name) locks)) (sym differ) ∙ is))
]

none-found : (found : Option (List ℕ)) → not (is_some found) ≡ true → found ≡ None
none-found None is = refl
none-found (Some bytes) is = absurd (cc is)

pub found-same : (found : Option (List ℕ)) (bytes : List ℕ) → option_map_or (λ (lock : List ℕ). bytes_eq lock bytes) found false ≡ true → found ≡ Some bytes
found-same None bytes is = absurd (cc is)
found-same (Some lock) bytes is = ap (λ (x : List ℕ). Some x) ((bytes_eq-Decides lock bytes).0 is)

-- ---- files that are written

abbrev pub rewrite : InputFile → List ℕ → RewriteParts
rewrite file bytes = record { file = file; bytes = bytes }

pub written-here : (is_same : Bool) (file : InputFile) (bytes : List ℕ) → is_same ≡ false → Has (rewrite file bytes) (rewriting is_same file bytes)
written-here true file bytes is = absurd (cc is)
written-here false file bytes is = inl refl

pub lock-written : (is_left : List ℕ × List ℕ → Bool) (lock : List ℕ × List ℕ) (locks : LockTexts) → Has lock locks → is_left lock ≡ false → Has (rewrite (Lock lock.0) lock.1) (locks_of is_left locks)
lock-written is_left lock [] has left = absurd has
lock-written is_left lock (other ∷ locks) (inl same) left =
    has-first (rewrite (Lock lock.0) lock.1) (rewriting (is_left other) (Lock other.0) other.1) (locks_of is_left locks)
    (subst (λ (o : List ℕ × List ℕ). Has (rewrite (Lock lock.0) lock.1) (rewriting (is_left o) (Lock o.0) o.1)) same (written-here (is_left lock) (Lock lock.0) lock.1 left))
lock-written is_left lock (other ∷ locks) (inr more) left =
    has-last (rewrite (Lock lock.0) lock.1) (rewriting (is_left other) (Lock other.0) other.1) (locks_of is_left locks) (lock-written is_left lock locks more left)

-- a file that is written once holds its bytes
pub holds-written : (files : List NewFileParts) (b : Files) (file : NewFileParts) → AreApart files → Has file files → with_all files b file.name ≡ Some file.bytes
holds-written [] b file apart has = absurd has
holds-written (f ∷ files) b file apart (inl same) =
    subst (λ (g : NewFileParts). with_all (f ∷ files) b g.name ≡ Some g.bytes) (sym same)
    (with_all-miss files (with_file b f.name (Some f.bytes)) f.name apart.0 ∙ with_this b f.name (Some f.bytes))
holds-written (f ∷ files) b file apart (inr more) = holds-written files (with_file b f.name (Some f.bytes)) file apart.1 more

pub others-in : (is_left : List ℕ × List ℕ → Bool) (name : List ℕ) (locks : LockTexts) → ((lock : List ℕ × List ℕ) → Has lock locks → is_left lock ≡ false → file_name lock.0 ≡ name → ⊥) → AreOther is_left name locks
others-in is_left name locks apart = all-from (λ (lock : List ℕ × List ℕ). is_left lock ≡ false → file_name lock.0 ≡ name → ⊥) locks apart

-- a name that no file has which is written
pub not-written : (a b : Bool) (first last : List ℕ × List ℕ → Bool) (requirements journal : List ℕ) (locks : LockTexts) (name : List ℕ)
    → (a ≡ false → codes "requirements.txt" ≡ name → ⊥) → AreOther first name locks → (b ≡ false → codes "reqlock.journal" ≡ name → ⊥) → AreOther last name locks
    → is_among (names (rewriting a Requirements requirements ++ locks_of first locks ++ rewriting b Journal journal ++ locks_of last locks)) name ≡ false
not-written a b first last requirements journal locks name no-requirements no-old no-journal no-new =
    subst (λ (l : List RewriteParts). is_among (names l) name ≡ false) (sym (append_assoc (front ++ olds) middle news ∙ append_assoc front olds (middle ++ news)))
    (new-name a Requirements requirements (olds ++ (middle ++ news)) name no-requirements
    (new-name_of_locks first locks (middle ++ news) name no-old
    (new-name b Journal journal news name no-journal
    (subst (λ (l : List RewriteParts). is_among (names l) name ≡ false) (append-nil news) (new-name_of_locks last locks [] name no-new refl)))))
  where
    front : List RewriteParts
    front = rewriting a Requirements requirements

    middle : List RewriteParts
    middle = rewriting b Journal journal

    olds : List RewriteParts
    olds = locks_of first locks

    news : List RewriteParts
    news = locks_of last locks

-- ---- files that go

abbrev pub names_in : List InputFile → List (List ℕ)
names_in files = map (λ file. name_of file) files

one-other : (is : Bool) (file : InputFile) (rest : List InputFile) (name : List ℕ) → (is ≡ true → name_of file ≡ name → ⊥) → is_among (names_in rest) name ≡ false → is_among (names_in (one_where is file ++ rest)) name ≡ false
one-other true file rest name apart other = either-false (bytes_eq (name_of file) name) (is_among (names_in rest) name) (differs (name_of file) name (apart refl)) other
one-other false file rest name apart other = other

one-first : (is : Bool) (file : InputFile) (rest : List InputFile) → is ≡ true → is_among (names_in (one_where is file ++ rest)) (name_of file) ≡ true
one-first true file rest goes = ap (λ (b : Bool). b || is_among (names_in rest) (name_of file)) (same_name (name_of file))
one-first false file rest goes = absurd (cc goes)

one-more : (is : Bool) (file : InputFile) (rest : List InputFile) (name : List ℕ) → is_among (names_in rest) name ≡ true → is_among (names_in (one_where is file ++ rest)) name ≡ true
one-more true file rest name among = ap (λ (b : Bool). bytes_eq (name_of file) name || b) among ∙ or_true (bytes_eq (name_of file) name)
one-more false file rest name among = among

-- a name that no lock has which goes
pub not-going : (new : Saved) (locks : LockTexts) (name : List ℕ) → ((lock : List ℕ × List ℕ) → lookup (at lock.0) new.locks.entries ≡ None → file_name lock.0 ≡ name → ⊥) → is_among (names_in (gone_among new locks)) name ≡ false
not-going new [] name apart = refl
not-going new (lock ∷ locks) name apart =
    one-other (not (is_some (lookup (at lock.0) new.locks.entries))) (Lock lock.0) (gone_among new locks) name
    (λ is. apart lock (none-found (lookup (at lock.0) new.locks.entries) is)) (not-going new locks name apart)

pub going-in : (new : Saved) (lock : List ℕ × List ℕ) (locks : LockTexts) → lookup (at lock.0) new.locks.entries ≡ None → Has lock locks → is_among (names_in (gone_among new locks)) (file_name lock.0) ≡ true
going-in new lock [] none has = absurd has
going-in new lock (other ∷ locks) none (inl same) =
    subst (λ (o : List ℕ × List ℕ). is_among (names_in (one_where (not (is_some (lookup (at o.0) new.locks.entries))) (Lock o.0) ++ gone_among new locks)) (file_name lock.0) ≡ true) same
    (one-first (not (is_some (lookup (at lock.0) new.locks.entries))) (Lock lock.0) (gone_among new locks) (ap (λ (found : Option (List ℕ)). not (is_some found)) none))
going-in new lock (other ∷ locks) none (inr more) =
    one-more (not (is_some (lookup (at other.0) new.locks.entries))) (Lock other.0) (gone_among new locks) (file_name lock.0) (going-in new lock locks none more)

-- ---- places

pub keeps-other : (writes : List NewFileParts) (going : List (List ℕ)) (old : Held) (name : List ℕ) → is_among (names_of writes) name ≡ false → is_among going name ≡ false → with_all writes (without_all going old.placed) name ≡ old.placed name
keeps-other writes going old name other stays =
    with_all-miss writes (without_all going old.placed) name other ∙ without_all-at going old.placed name ∙ ap (λ (b : Bool). if b then None else old.placed name) stays

pub is-gone : (writes : List NewFileParts) (going : List (List ℕ)) (old : Held) (name : List ℕ) → is_among (names_of writes) name ≡ false → is_among going name ≡ true → with_all writes (without_all going old.placed) name ≡ None
is-gone writes going old name other goes =
    with_all-miss writes (without_all going old.placed) name other ∙ without_all-at going old.placed name ∙ ap (λ (b : Bool). if b then None else old.placed name) goes
