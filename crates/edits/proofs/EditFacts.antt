-- What an edit leads to, from the state that its lines were locked as.
use Rattle.std.proofs.Common.{◌≡◌, ◌⊎◌, ℕ, List, [], ◌∷◌, None, Ok, Err, map, refl, subst, inl, inr}
use Rattle.states.specs.Pool.{PoolParts}
use Rattle.states.specs.StateParts.{StateParts}
use Rattle.states.specs.Locks.{IsLocked, given_for}
use Rattle.states.specs.declared.locks.Unlocked.{Unlocked}
use Rattle.states.specs.declared.refusal.Refusal.{Refusal}
use Rattle.states.specs.declared.refusal.Refusal.TheVariants.{NothingChanges, OutOfMemory}
use Rattle.edits.specs.Edits.{EditResult, Locks, lines_after, problems_after, problems_over, refusal_of}
use Rattle.edits.specs.Tied.KeptVersions.{kept_after, kept_of}
use Rattle.edits.specs.Refused.{or_refused, refused_by_lines, refused_by_locks}
use Rattle.edits.specs.declared.request.Edit.{Edit}
use Rattle.edits.proofs.KeepFacts.{givens-after}
use Rattle.edits.proofs.Refusals.{accepted}

-- the edit is not refused, these are its lines, and these its targets before they are locked
pub record IsAccepted (state : StateParts) (edit : Edit) (pool : PoolParts) (lines : List (List ℕ)) (all : List Unlocked) : Type 0 where
  pub lines_are : or_refused (refused_by_lines state.lines edit) (lines_after state.lines edit) ≡ Ok lines
  pub locks : refused_by_locks state.targets edit ≡ None
  pub kept : map kept_of all ≡ kept_after pool.index state.targets edit

module _ (state : StateParts) (edit : Edit) (pool : PoolParts) (lines : List (List ℕ)) (all : List Unlocked) (a : IsAccepted state edit pool lines all) where
  -- its problems are those of the definition
  pub problems-so : (refusal_of state edit ≡ None) × (map (given_for lines pool) all ≡ problems_after state edit pool)
  problems-so =
      let k = accepted (refused_by_lines state.lines edit) (lines_after state.lines edit) lines a.lines_are in
      let givens = givens-after lines edit pool state.targets all a.kept in
      (rw (k.0, a.locks) refl, rw k.1 givens)

  pub nothing-changes : (edited : StateParts) → IsLocked (map (given_for lines pool) all) lines edited → edited ≡ state → EditResult state edit pool (Err NothingChanges)
  nothing-changes edited locked same =
      let k = accepted (refused_by_lines state.lines edit) (lines_after state.lines edit) lines a.lines_are in
      let old : IsLocked (problems_over lines state.targets edit pool) lines state =
      rw (← givens-after lines edit pool state.targets all a.kept) (subst (IsLocked (map (given_for lines pool) all) lines) same locked) in
      rw (k.0, a.locks, k.1) (inr (refl, old))

  -- a state that holds something else is new
  pub changes : (edited : StateParts) → IsLocked (map (given_for lines pool) all) lines edited → (edited ≡ state → ⊥) → EditResult state edit pool (Ok edited)
  changes edited locked other =
      let k = accepted (refused_by_lines state.lines edit) (lines_after state.lines edit) lines a.lines_are in
      let new : IsLocked (problems_over lines state.targets edit pool) lines edited = rw (← givens-after lines edit pool state.targets all a.kept) locked in
      rw (k.0, a.locks, k.1) (new, λ e. other cc)

  unsolved : (refusal : Refusal) → Locks None (map (given_for lines pool) all) lines (Err refusal) → EditResult state edit pool (Err refusal)
  unsolved refusal (inl none) =
      let k = accepted (refused_by_lines state.lines edit) (lines_after state.lines edit) lines a.lines_are in
      rw (k.0, a.locks, k.1) (inl (none.0, rw (← givens-after lines edit pool state.targets all a.kept) none.1))
  unsolved refusal (inr never) = absurd never.1

  -- where the locks are refused, the edit is
  pub refused-so : (refusal : Refusal) → (refusal ≡ OutOfMemory) ⊎ Locks None (map (given_for lines pool) all) lines (Err refusal)
      → (refusal ≡ OutOfMemory) ⊎ EditResult state edit pool (Err refusal)
  refused-so refusal (inl memory) = inl memory
  refused-so refusal (inr refused) = inr (unsolved refusal refused)
