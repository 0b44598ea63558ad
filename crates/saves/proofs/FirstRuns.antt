-- A first lock that is saved.
use Rattle.std.proofs.Common.{◌≡◌, ℕ, Option, subst, sym}
use Rattle.files.specs.Places.{AreKnown, FileBytes}
use Rattle.files.specs.Repair.{IsRemoved}
use Rattle.folder.specs.Held.{Files, Held}
use Rattle.folder.specs.Repairs.{HasSamePlaces, IsMoveOf}
use Rattle.folder.proofs.RepairRuns.{moves_twice}
use Rattle.folder.proofs.Runs.{Ran, ran_on}

-- what is known of places stays known where no place changes
pub known_same : (f : FileBytes) (h k : Held) → HasSamePlaces h k → AreKnown h f → AreKnown k f
known_same f h k same are =
    let there : AreKnown (record { placed = k.placed; beside = h.beside }) f =
    subst (λ (places : Files). AreKnown (record { placed = places; beside = h.beside }) f) (sym same) (record { requirements = are.requirements; locks = are.locks; journal = are.journal }) in
    record { requirements = there.requirements; locks = there.locks; journal = there.journal }

module _ {F : Type 0} (held : F → Option Held) (may_leave : F → Held → Type 0) (moment : F → ℕ) (left_since : F → ℕ → Held → Type 0) (faults : F → ℕ) where
  abbrev Run : (Held → Held → Type 0) → (Held → Held → Type 0) → F → F → Type 0
  Run = Ran held may_leave moment left_since faults

  -- what is left of a save is ended, and then removed
  pub moved_removed : (old mid new : F) → Run IsMoveOf IsMoveOf old mid → Run IsRemoved IsRemoved mid new → Run IsMoveOf IsMoveOf old new
  moved_removed old mid new moved removed =
      ran_on held may_leave moment left_since faults IsMoveOf IsRemoved IsMoveOf IsMoveOf IsRemoved IsMoveOf old mid new moved removed (λ h k m a b. moves_twice h k m a b.1) (λ h k a. a) (λ h k m a b. moves_twice h k m a b.1)
