-- Lock files that are looked up by the names of their targets.
use Rattle.std.proofs.Common.{◌≡◌, ◌⊎◌, ℕ, Bool, List, Some, None, Ok, refl, sym, ap, subst, ◌∙◌, inl, inr, false}
use Rattle.std.proofs.lemmas.Map.Text.{is_eq-slice_cmp}
use Rattle.std.specs.BTreeMap.{is_at}
use Rattle.std.specs.Cmp.Lexicographic.{slice_cmp}
use Rattle.std.specs.Map.{lookup}
use Rattle.std.specs.Ordering.{nat_cmp}
use Rattle.std.specs.Str.{bytes_eq}
use Rattle.sha2.specs.Sha256.{sha256}
use Rattle.pylock.specs.Locks.{LockParts}
use Rattle.pylock.specs.LockOfTable.{lock_in_text}
use Rattle.journal.specs.Values.{Target, Refusal, OutOfMemory}
use Rattle.journal.specs.Locks.{LockTexts, is_kept, lock_at}
use Rattle.journal.specs.Opens.{IsReadTarget}
use Rattle.journal_format.specs.declared.header.HeaderTarget.{HeaderTarget}

-- a look-up by bytes is the look-up of a map
lookup-get : (name : List ℕ) (locks : LockTexts) → lock_at locks name ≡ lookup (is_at (slice_cmp nat_cmp name)) locks
lookup-get name locks = ap (λ (t : List ℕ → Bool). lookup t locks) (λ i x. sym (is_eq-slice_cmp name x) i)

module _ (locks : LockTexts) (given : HeaderTarget) where
  pub kept-there : (text : List ℕ) → lookup (is_at (slice_cmp nat_cmp given.name)) locks ≡ Some text → bytes_eq (sha256 text) given.lock ≡ is_kept locks given
  kept-there text there = rw (lookup-get given.name locks, there) refl

  pub kept-not : lookup (is_at (slice_cmp nat_cmp given.name)) locks ≡ None → false ≡ is_kept locks given
  kept-not none = rw (lookup-get given.name locks, none) refl

  -- no lock file, and so no target that is read
  pub none-read : lookup (is_at (slice_cmp nat_cmp given.name)) locks ≡ None → (target : Target) → IsReadTarget locks given target → ⊥
  none-read none target is = let both : None ≡ Some is.text = sym none ∙ sym (lookup-get given.name locks) ∙ is.there in absurd cc

  module _ (text : List ℕ) (there : lookup (is_at (slice_cmp nat_cmp given.name)) locks ≡ Some text) where
    found-at : lock_at locks given.name ≡ Some text
    found-at = lookup-get given.name locks ∙ there

    -- the lock file is read as a lock
    pub is-read : (target : Target) → target.name ≡ given.name → target.environment ≡ given.environment → lock_in_text text ≡ Ok target.lock → IsReadTarget locks given target
    is-read target name environment reads = record { name = name; environment = environment; text = text; there = found-at; reads = reads }

    text-reads : (target : Target) → IsReadTarget locks given target → lock_in_text text ≡ Ok target.lock
    text-reads target is =
        let texts : is.text ≡ text = let both : Some is.text ≡ Some text = sym is.there ∙ found-at in cc in
        subst (λ (t : List ℕ). lock_in_text t ≡ Ok target.lock) texts is.reads

    -- it isn't, or memory is refused
    pub not-read : (e refusal : Refusal) → (e ≡ OutOfMemory) ⊎ ((e ≡ refusal) × ((lock : LockParts) → lock_in_text text ≡ Ok lock → ⊥))
        → (e ≡ OutOfMemory) ⊎ ((e ≡ refusal) × ((target : Target) → IsReadTarget locks given target → ⊥))
    not-read e refusal (inl memory) = inl memory
    not-read e refusal (inr none) = inr (none.0, λ target is. none.1 target.lock (text-reads target is))
