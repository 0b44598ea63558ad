-- Locks by their names.
use Rattle.std.proofs.Common.{◌≡◌, ◌∙◌, ◌||◌, ℕ, Bool, true, false, List, [], ◌∷◌, Less, Equal, Greater, Option, Ordering, Some, None, ap, cond, inl, inr, is_some, refl, sym}
use Rattle.std.proofs.lemmas.Bool.{cases_Bool}
use Rattle.std.proofs.lemmas.Map.Lookups.{exact_bytes}
use Rattle.std.proofs.lemmas.Slice.Eq.{bytes_eq-Decides}
use Rattle.std.specs.BTreeMap.{insert_entry}
use Rattle.std.specs.Cmp.Lexicographic.{slice_cmp}
use Rattle.std.specs.Ordering.{match_ordering, nat_cmp}
use Rattle.std.specs.Str.{bytes_eq}
use Rattle.journal.specs.Locks.{LockTexts, lock_at}
use Rattle.files.specs.JournalLocks.{HaveNames}
use Rattle.files.specs.TargetLocks.{is_among}

-- ---- a lock more

pub found_or : {X : Type 0} (b : Bool) (x : X) (o : Option X) → is_some (cond b (Some x) o) ≡ (b || is_some o)
found_or true x o = refl
found_or false x o = refl

found-again : {X : Type 0} (b : Bool) (x y : X) (o : Option X) → is_some (cond b (Some x) o) ≡ (b || is_some (cond b (Some y) o))
found-again true x y o = refl
found-again false x y o = refl

found-later : {X : Type 0} (a b : Bool) (x : X) (new o : Option X) → is_some new ≡ (a || is_some o) → is_some (cond b (Some x) new) ≡ (a || is_some (cond b (Some x) o))
found-later true true x new o is = refl
found-later false true x new o is = refl
found-later a false x new o is = is

-- whether there is a lock of a name where one more is
with-lock : (locks : LockTexts) (name text other : List ℕ) → is_some (lock_at (insert_entry (slice_cmp nat_cmp) locks name text) other) ≡ (bytes_eq other name || is_some (lock_at locks other))
with-lock [] name text other = found_or (bytes_eq other name) text None
with-lock (lock ∷ locks) name text other = by (slice_cmp nat_cmp name lock.0) refl (with-lock locks name text other)
  where
    by : (o : Ordering) → slice_cmp nat_cmp name lock.0 ≡ o → is_some (lock_at (insert_entry (slice_cmp nat_cmp) locks name text) other) ≡ (bytes_eq other name || is_some (lock_at locks other))
        → is_some (lock_at (match_ordering o ((name, text) ∷ lock ∷ locks) ((lock.0, text) ∷ locks) (lock ∷ insert_entry (slice_cmp nat_cmp) locks name text)) other) ≡ (bytes_eq other name || is_some (lock_at (lock ∷ locks) other))
    by Less is behind = found_or (bytes_eq other name) text (lock_at (lock ∷ locks) other)
    by Equal is behind =
        found-again (bytes_eq other lock.0) text lock.1 (lock_at locks other)
        ∙ ap (λ (n : List ℕ). bytes_eq other n || is_some (lock_at (lock ∷ locks) other)) (sym (exact_bytes name lock.0 is))
    by Greater is behind = found-later (bytes_eq other name) (bytes_eq other lock.0) lock.1 (lock_at (insert_entry (slice_cmp nat_cmp) locks name text) other) (lock_at locks other) behind

-- ---- locks so far

-- with a lock of each name that is left, a lock is there of each of these names, and of no other
abbrev pub HaveNamesWith : LockTexts → List (List ℕ) → List (List ℕ) → Type 0
HaveNamesWith locks left names = (name : List ℕ) → (is_some (lock_at locks name) || is_among left name) ≡ is_among names name

-- all names are left
pub all-left : (locks : LockTexts) (left names : List (List ℕ)) → locks ≡ [] → left ≡ names → HaveNamesWith locks left names
all-left locks left names empty same name = ap (λ (l : LockTexts). is_some (lock_at l name) || is_among left name) empty ∙ ap (λ (l : List (List ℕ)). is_among l name) same

either-way : (a b : List ℕ) → bytes_eq a b ≡ bytes_eq b a
either-way a b = elim (cases_Bool (bytes_eq a b)) [
  | inl same ↦ same ∙ sym ((bytes_eq-Decides b a).1 (sym ((bytes_eq-Decides a b).0 same)))
  | inr other ↦ elim (cases_Bool (bytes_eq b a)) [
    | inl same ↦ (bytes_eq-Decides a b).1 (sym ((bytes_eq-Decides b a).0 same)) ∙ sym same
    | inr apart ↦ other ∙ sym apart
  ]
]

or-turned : (a b c : Bool) → ((a || b) || c) ≡ (b || (a || c))
or-turned true true c = refl
or-turned true false c = refl
or-turned false b c = refl

or-none : (a : Bool) → a ≡ (a || false)
or-none true = refl
or-none false = refl

-- one lock more, and one name less that is left
pub one_name_less : (locks new : LockTexts) (name text : List ℕ) (left names : List (List ℕ)) → new ≡ insert_entry (slice_cmp nat_cmp) locks name text → HaveNamesWith locks (name ∷ left) names → HaveNamesWith new left names
one_name_less locks new name text left names put have other =
    let more : is_some (lock_at new other) ≡ (bytes_eq other name || is_some (lock_at locks other)) = ap (λ (l : LockTexts). is_some (lock_at l other)) put ∙ with-lock locks name text other in
    ap (λ (b : Bool). b || is_among left other) more ∙ or-turned (bytes_eq other name) (is_some (lock_at locks other)) (is_among left other)
    ∙ ap (λ (b : Bool). is_some (lock_at locks other) || (b || is_among left other)) (either-way other name) ∙ have other

-- a name that is left is one of them
pub left-among : (locks : LockTexts) (name : List ℕ) (left names : List (List ℕ)) → HaveNamesWith locks (name ∷ left) names → is_among names name ≡ true
left-among locks name left names have =
    sym (have name) ∙ ap (λ (b : Bool). is_some (lock_at locks name) || (b || is_among left name)) ((bytes_eq-Decides name name).1 refl) ∙ or-last (is_some (lock_at locks name))
  where
    or-last : (a : Bool) → (a || true) ≡ true
    or-last true = refl
    or-last false = refl

-- no name is left
pub none-left : (locks : LockTexts) (names : List (List ℕ)) → HaveNamesWith locks [] names → HaveNames locks names
none-left locks names have name = or-none (is_some (lock_at locks name)) ∙ have name
