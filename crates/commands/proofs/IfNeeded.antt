-- Edits that are made only if they are needed.
use Rattle.std.proofs.Common.{◌≡◌, ◌∙◌, ℕ, ◌+◌, ◌<◌, suc, zero, List, [], ◌∷◌, length, Some, Bool, true, arith, ap, inr}
use Rattle.std.specs.Prelude.{slice_get}
use Rattle.changes.specs.Changes.{ChangeParts}
use Rattle.commands.specs.Needed.{IsApplied, IsOfIndexAlone}
use Rattle.edits.specs.declared.request.Edit.{Edit}
use Rattle.journal.specs.Changes.{HistoryParts, IsStepOf}
use Rattle.journal.specs.Commands.{Asked, Editing}
use Rattle.journal.specs.Histories.{ChangesAfter}
use Rattle.journal.specs.Past.{Past}
use Rattle.journal.specs.Steps.{Step}
use Rattle.journal.specs.declared.commands.Reply.{Reply}
use Rattle.journal.specs.declared.commands.Reply.TheVariants.{Done, Same}
use Rattle.states.specs.declared.pool.Pool.{Pool}

-- ---- the step of an edit is one of the history

is_at : (old new : Past) (edit : Edit) (pool : Pool) (k : ℕ) → Step old (Editing edit pool) (Done k) new → k ≡ old.cursor + 1
is_at old new edit pool k step = step.3 ∙ ap (λ (p : Past). p.cursor) step.2

pub has_first : (old new : Past) (asked : Asked) (edit : Edit) (pool : Pool) (reply : Reply) (k : ℕ) → asked ≡ Editing edit pool → reply ≡ Done k → Step old asked reply new → 0 < k
has_first old new asked edit pool reply k asked_is reply_is step =
    let at : k ≡ old.cursor + 1 = is_at old new edit pool k (rw (asked_is, reply_is) at step) in
    omega (arith, at)

within : {X : Type 0} (xs : List X) (k : ℕ) (x : X) → slice_get xs k ≡ Some x → k < length xs
within [] k x at = absurd cc
within (y ∷ xs) zero x at = omega arith
within (y ∷ xs) (suc k) x at = let more = within xs k x at in omega arith

pub has_last : (old new : HistoryParts) (asked : Asked) (edit : Edit) (pool : Pool) (reply : Reply) (k : ℕ) → asked ≡ Editing edit pool → reply ≡ Done k → ChangesAfter old asked reply new → k < length new.past.states
has_last old new asked edit pool reply k asked_is reply_is changes =
    let after : ChangesAfter old (Editing edit pool) (Done k) new = rw (asked_is, reply_is) at changes in
    within new.past.states k after.1.new after.1.new_is

-- ---- replies

pub same_if_needed : (old new : Past) (asked : Asked) (edit : Edit) (pool : Pool) (k : ℕ) (change : ChangeParts) (only : Bool) → only ≡ true → asked ≡ Editing edit pool → Step old asked (Done k) new
    → IsStepOf new k change → IsOfIndexAlone change → IsApplied only old asked Same new
same_if_needed old new asked edit pool k change only is asked_is step of alone =
    rw (is, asked_is) (inr (k, (rw asked_is at step), (change, of, alone)))

pub done_if_needed : (old new : Past) (asked : Asked) (edit : Edit) (pool : Pool) (k : ℕ) (change : ChangeParts) (only : Bool) → only ≡ true → asked ≡ Editing edit pool → Step old asked (Done k) new
    → IsStepOf new k change → (¬ (IsOfIndexAlone change)) → IsApplied only old asked (Done k) new
done_if_needed old new asked edit pool k change only is asked_is step of more =
    rw (is, asked_is) ((rw asked_is at step), (change, of, more))
