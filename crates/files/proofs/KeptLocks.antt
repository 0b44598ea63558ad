-- The lock files that a journal's header tells of, where none of them is odd.
use Rattle.std.proofs.Common.{◌≡◌, ℕ, Bool, true, false, List, [], ◌∷◌, Option, Some, None, refl, inl, inr}
use Rattle.std.specs.Prelude.{find, not, option_map}
use Rattle.std.specs.List.{AllByRecursion}
use Rattle.std.specs.Option.{option_map_or}
use Rattle.std.specs.Str.{bytes_eq}
use Rattle.std.specs.Cmp.Lexicographic.{slice_cmp}
use Rattle.std.specs.Ordering.{is_lt, nat_cmp}
use Rattle.std.proofs.lemmas.Bool.{cases_Bool}
use Rattle.std.proofs.lemmas.Slice.Eq.{bytes_eq-Decides}
use Rattle.sha2.specs.Sha256.{sha256}
use Rattle.journal.specs.Locks.{LockTexts, is_kept, lesser, lock_at, lost_lock, odd_lock, stray_lock}
use Rattle.journal_format.specs.Lines.{has_target}
use Rattle.journal_format.specs.declared.header.Header.{Header}
use Rattle.journal_format.specs.declared.header.HeaderTarget.{HeaderTarget}

-- ---- what isn't there

lesser-some : (name other : List ℕ) → lesser (Some name) (Some other) ≡ None → ⊥
lesser-some name other none = elim (cases_Bool (is_lt (slice_cmp nat_cmp other name))) [
  | inl less ↦ let is : Some other ≡ None = rw less at none in cc
  | inr more ↦ let is : Some name ≡ None = rw more at none in cc
]

-- where there is no lesser of two names, there is neither
lesser-none : (one other : Option (List ℕ)) → lesser one other ≡ None → (one ≡ None) × (other ≡ None)
lesser-none None other none = (refl, none)
lesser-none (Some name) None none = absurd (cc none)
lesser-none (Some name) (Some other) none = absurd (lesser-some name other none)

map-none : {X Y : Type 0} (f : X → Y) (found : Option X) → option_map f found ≡ None → found ≡ None
map-none f None none = refl
map-none f (Some x) none = absurd (let is : Some (f x) ≡ None = none in cc)

-- where nothing is found, nothing passes
find-none : {X : Type 0} (test : X → Bool) (xs : List X) → find test xs ≡ None → AllByRecursion (λ x. test x ≡ false) xs
find-none test [] none = tt
find-none test (x ∷ xs) none = elim (cases_Bool (test x)) [
  | inl passes ↦ absurd (let is : Some x ≡ None = rw passes at none in cc)
  | inr fails ↦ (fails, find-none test xs (rw fails at none))
]

-- ---- what is kept

-- the lock file of a target is there, and has its digest
pub record HasItsLock (locks : LockTexts) (target : HeaderTarget) : Type 0 where
  pub text : List ℕ
  pub there : lock_at locks target.name ≡ Some text
  pub digest : sha256 text ≡ target.lock

has-it : (locks : LockTexts) (target : HeaderTarget) (found : Option (List ℕ)) → lock_at locks target.name ≡ found → not (option_map_or (λ text. bytes_eq (sha256 text) target.lock) found false) ≡ false
    → HasItsLock locks target
has-it locks target None is kept = absurd (cc kept)
has-it locks target (Some text) is kept = elim (cases_Bool (bytes_eq (sha256 text) target.lock)) [
  | inl same ↦ record { text = text; there = is; digest = (bytes_eq-Decides (sha256 text) target.lock).0 same }
  | inr other ↦ absurd (let e : true ≡ false = rw other at kept in cc)
]

have-locks : (locks : LockTexts) (targets : List HeaderTarget) → AllByRecursion (λ t. not (is_kept locks t) ≡ false) targets → AllByRecursion (HasItsLock locks) targets
have-locks locks [] kept = tt
have-locks locks (t ∷ targets) kept = (has-it locks t (lock_at locks t.name) refl kept.0, have-locks locks targets kept.1)

-- where no lock file is odd, each target of the header has its own
pub all-kept : (header : Header) (locks : LockTexts) → odd_lock header locks ≡ None → AllByRecursion (HasItsLock locks) header.targets
all-kept header locks none =
    let lost : lost_lock header locks ≡ None = (lesser-none (lost_lock header locks) (stray_lock header locks) none).0 in
    have-locks locks header.targets (find-none (λ t. not (is_kept locks t)) header.targets (map-none (λ t. t.name) (find (λ t. not (is_kept locks t)) header.targets) lost))

-- and each lock file has a target of the header
pub none-stray : (header : Header) (locks : LockTexts) → odd_lock header locks ≡ None → AllByRecursion (λ lock. has_target header lock.0 ≡ true) locks
none-stray header locks none =
    let stray : stray_lock header locks ≡ None = (lesser-none (lost_lock header locks) (stray_lock header locks) none).1 in
    known locks (find-none (λ p. not (has_target header p.0)) locks (map-none (λ p. p.0) (find (λ p. not (has_target header p.0)) locks) stray))
  where
    turned : (b : Bool) → not b ≡ false → b ≡ true
    turned true is = refl
    turned false is = absurd (cc is)

    known : (some : LockTexts) → AllByRecursion (λ lock. not (has_target header lock.0) ≡ false) some → AllByRecursion (λ lock. has_target header lock.0 ≡ true) some
    known [] all = tt
    known (lock ∷ some) all = (turned (has_target header lock.0) all.0, known some all.1)
