-- Lock files put one after the other, by the names of their targets.
use Rattle.std.proofs.Common.{◌≡◌, ◌++◌, ◌+◌, ◌<◌, ◌≤◌, ℕ, zero, suc, List, [], ◌∷◌, Less, Greater, length, take, get_or, true, refl, sym, ap, ◌∙◌, subst, arith}
use Rattle.std.proofs.lemmas.List.{take_all, take_more}
use Rattle.std.specs.BTreeMap.{insert_entry}
use Rattle.std.specs.Cmp.Lexicographic.{nat_list_cmp_total, slice_cmp}
use Rattle.std.specs.List.{AllByRecursion, AllZip}
use Rattle.std.specs.Ordering.{nat_cmp, ordering_reverse}
use Rattle.std.proofs.lemmas.List.Elements.{Contains-get_or}
use Rattle.lists.specs.Rising.{rises}
use Rattle.lists.proofs.Members.{Contains-map_of}
use Rattle.states.proofs.EntryFacts.{rises-above, rises-rest}
use Rattle.journal.specs.Values.{Target}
use Rattle.journal.specs.Locks.{LockTexts}
use Rattle.journal.specs.Tied.LocksWritten.{AreLocked, IsInserted, IsWrittenLock}
use Rattle.journal.specs.Saved.{IsLockFile, target_for, targets_for}
use Rattle.journal.specs.declared.saved.Locked.{Locked}
use Rattle.journal.proofs.LocksAgain.{names}

-- one more on both sides
zip-more : {X Y : Type 0} (R : X → Y → Type 0) (xs : List X) (ys : List Y) (x : X) (y : Y) → AllZip R xs ys → R x y → AllZip R (xs ++ x ∷ []) (ys ++ y ∷ [])
zip-more R [] [] x y h g = (g, tt)
zip-more R [] (b ∷ ys) x y h g = absurd h
zip-more R (a ∷ xs) [] x y h g = absurd h
zip-more R (a ∷ xs) (b ∷ ys) x y h g = (h.0, zip-more R xs ys x y h.1 g)

for-more : (targets : List Target) (locks : LockTexts) (t : Target) (l : List ℕ × List ℕ) → AllZip IsWrittenLock targets locks
    → targets_for (targets ++ t ∷ []) (locks ++ l ∷ []) ≡ targets_for targets locks ++ target_for t l.1 ∷ []
for-more [] [] t l h = refl
for-more [] (m ∷ locks) t l h = absurd h
for-more (u ∷ targets) [] t l h = absurd h
for-more (u ∷ targets) (m ∷ locks) t l h = ap (λ ts. target_for u m.1 ∷ ts) (for-more targets locks t l h.1)

-- the names of lock files before a place are below the name there
below-at : (targets : List Target) (place : ℕ) (d : Target) (locks : LockTexts) → rises (names targets) ≡ true → place < length targets → AllZip IsWrittenLock (take place targets) locks
    → AllByRecursion (λ l. slice_cmp nat_cmp l.0 (get_or targets place d).name ≡ Less) locks
below-at [] place d locks rise within h = absurd (omega (arith, within))
below-at (t ∷ targets) zero d [] rise within h = tt
below-at (t ∷ targets) zero d (l ∷ locks) rise within h = absurd h
below-at (t ∷ targets) (suc place) d [] rise within h = absurd h
below-at (t ∷ targets) (suc place) d (l ∷ locks) rise within h =
    let later : place < length targets = omega (arith, within) in
    let there = Contains-map_of (λ (x : Target). x.name) targets (get_or targets place d) (Contains-get_or targets place d later) in (
      subst (λ (n : List ℕ). slice_cmp nat_cmp n (get_or targets place d).name ≡ Less) (sym h.0.file.name) (rises-above t.name (names targets) (get_or targets place d).name rise there),
      below-at targets place d locks (rises-rest t.name (names targets) rise) later h.1,
    )

-- a name above all others goes last
insert-last : (locks : LockTexts) (name text : List ℕ) → AllByRecursion (λ l. slice_cmp nat_cmp l.0 name ≡ Less) locks → insert_entry (slice_cmp nat_cmp) locks name text ≡ locks ++ (name, text) ∷ []
insert-last [] name text below = refl
insert-last (l ∷ locks) name text below =
    let above : slice_cmp nat_cmp name l.0 ≡ Greater = nat_list_cmp_total.antisymm name l.0 ∙ ap ordering_reverse below.0 in
    rw above (ap (λ (ls : LockTexts). l ∷ ls) (insert-last locks name text below.1))

-- the target at a place is put behind those before it
pub locked-more : (targets : List Target) (place : ℕ) (t : Target) (old new : Locked) → rises (names targets) ≡ true → place < length targets → t ≡ get_or targets place t
    → AreLocked (take place targets) old → IsInserted t old new → AreLocked (take (place + 1) targets) new
locked-more targets place t old new rise within is so_far put =
    let more : take (place + 1) targets ≡ take place targets ++ t ∷ [] = take_more targets place t within ∙ ap (λ (x : Target). take place targets ++ x ∷ []) (sym is) in
    let below : AllByRecursion (λ l. slice_cmp nat_cmp l.0 t.name ≡ Less) old.locks.entries =
    subst (λ (x : Target). AllByRecursion (λ l. slice_cmp nat_cmp l.0 x.name ≡ Less) old.locks.entries) (sym is) (below-at targets place t old.locks.entries rise within so_far.files) in
    let locks : new.locks.entries ≡ old.locks.entries ++ (t.name, put.text) ∷ [] = put.locks ∙ insert-last old.locks.entries t.name put.text below in
    record {
      files = rw (more, locks) (zip-more IsWrittenLock (take place targets) old.locks.entries t (t.name, put.text) so_far.files put.written);
      targets_are = rw (more, locks) (put.targets ∙ ap (λ ts. ts ++ target_for t put.text ∷ []) so_far.targets_are ∙ sym (for-more (take place targets) old.locks.entries t (t.name, put.text) so_far.files));
    }

pub locked-all : (targets : List Target) (place : ℕ) (locked : Locked) → length targets ≤ place → AreLocked (take place targets) locked → AreLocked targets locked
locked-all targets place locked past so_far = subst (λ ts. AreLocked ts locked) (take_all place targets past) so_far

-- what is written are lock files
pub files-are : (targets : List Target) (locks : LockTexts) → AllZip IsWrittenLock targets locks → AllZip IsLockFile targets locks
files-are [] [] h = tt
files-are [] (l ∷ locks) h = absurd h
files-are (t ∷ targets) [] h = absurd h
files-are (t ∷ targets) (l ∷ locks) h = (h.0.file, files-are targets locks h.1)
