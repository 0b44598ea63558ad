-- Files that stand in the same places.
use Rattle.std.proofs.Common.{◌≡◌, ℕ, Bool, false, List, Option, Some, sym, ◌∙◌}
use Rattle.std.proofs.lemmas.List.Elements.{All-contains, All-from_recursion}
use Rattle.std.proofs.lemmas.Map.Views.{Contains-from_lookup}
use Rattle.std.proofs.lemmas.Slice.Eq.{bytes_eq-Decides}
use Rattle.folder.specs.Held.{Held}
use Rattle.inputs.specs.FileNames.{name_of}
use Rattle.inputs.specs.declared.input_files.InputFile.{InputFile}
use Rattle.inputs.specs.declared.input_files.InputFile.TheVariants.{Requirements, Lock, Journal}
use Rattle.journal.specs.Locks.{LockTexts, lock_at}
use Rattle.files.specs.JournalLocks.{AreOneByName}
use Rattle.files.specs.Places.{AreInPlace, FileBytes, LocksStandAt, standing}

-- the lock of this name stands there
pub lock-stands : (is_beside : InputFile → Bool) (held : Held) (locks : LockTexts) (name text : List ℕ) → LocksStandAt is_beside held locks → lock_at locks name ≡ Some text → standing (is_beside (Lock name)) held (Lock name) ≡ Some text
lock-stands is_beside held locks name text are there =
    All-contains (λ (lock : List ℕ × List ℕ). standing (is_beside (Lock lock.0)) held (Lock lock.0) ≡ Some lock.1) locks (name, text)
    (All-from_recursion (λ (lock : List ℕ × List ℕ). standing (is_beside (Lock lock.0)) held (Lock lock.0) ≡ Some lock.1) locks are)
    (Contains-from_lookup (λ x y. (bytes_eq-Decides x y).0) name text locks there)

pub one-text : (found : Option (List ℕ)) (one other : List ℕ) → found ≡ Some one → found ≡ Some other → one ≡ other
one-text found one other p q = let same : Some one ≡ Some other = sym p ∙ q in cc

module _ (held : Held) (a b : FileBytes) (are : AreInPlace held a) (are_too : AreInPlace held b) where
  pub one-requirements : a.requirements ≡ b.requirements
  one-requirements = one-text (held.placed (name_of Requirements)) a.requirements b.requirements are.requirements are_too.requirements

  pub one-journal : a.journal ≡ b.journal
  one-journal = one-text (held.placed (name_of Journal)) a.journal b.journal are.journal are_too.journal

  pub one-by_name : AreOneByName a.locks b.locks
  one-by_name name x y at at_too =
      one-text (held.placed (name_of (Lock name))) x y (lock-stands (λ file. false) held a.locks name x are.locks at) (lock-stands (λ file. false) held b.locks name y are_too.locks at_too)
