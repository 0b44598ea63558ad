-- Which places `diff` compares, and what `check --current` tells. All of it is reqlock's own rule.
use Rattle.std.specs.Prelude.{◌≡◌, ◌≢◌, ◌⊎◌, ℕ, ◌-◌, ◌==◌, ◌&&◌, not, Bool, true, false, length, Option, None, Some, Err, Ok, ⊤}
use Rattle.snapshot.specs.Packages.{Index}
use Rattle.command_line.specs.declared.invocation.DiffRange.{DiffRange}
use Rattle.command_line.specs.declared.invocation.DiffRange.TheVariants as ranges
use Rattle.states.specs.declared.refusal.Refusal.{Refusal}
use Rattle.states.specs.declared.refusal.Refusal.TheVariants.{NothingChanges}
use Rattle.states.specs.Pool.{whole}
use Rattle.states.specs.StateParts.{StateParts}
use Rattle.changes.specs.Changes.{After, ChangeParts}
use Rattle.edits.specs.Edits.{EditResult}
use Rattle.edits.specs.declared.request.Edit.TheVariants.{Relock}
use Rattle.commands.specs.declared.batch.StreamFault.TheVariants as streams
use Rattle.inputs.specs.Faults.{fault_of}
use Rattle.stops.specs.Stops.{stop_of}
use Rattle.stops.specs.declared.stop.Stop.{Stop}
use Rattle.stops.specs.declared.stop.Stop.TheVariants as stops

-- the two places that a range names in a history that stands in this one; no step has led to the first state
abbrev pub places_in : DiffRange → ℕ → ℕ × ℕ
places_in ranges.LastStep cursor = (cursor - 1, cursor)
places_in (ranges.Since from) cursor = (from, cursor)
places_in (ranges.Between from to) cursor = (from, to)

-- this change is what a lock over this index would change
abbrev pub IsRelock : StateParts → Index → ChangeParts → Type 0
IsRelock state index change = (next : StateParts) × EditResult state Relock (whole index) (Ok next) × After state change next

-- a change moves lines or entries, and not the digest of the index alone
abbrev pub moves : ChangeParts → Bool
moves change = not (length change.splices == 0 && length change.entries == 0)

-- a lock over this index would change nothing, or else the digest of the index alone, by this change
abbrev pub IsCurrent : StateParts → Index → Option ChangeParts → Type 0
IsCurrent state index None = EditResult state Relock (whole index) (Err NothingChanges)
IsCurrent state index (Some change) = IsRelock state index change × (moves change ≡ false)

-- a lock over this index would move something, by this change
abbrev pub IsOutOfDate : StateParts → Index → ChangeParts → Type 0
IsOutOfDate state index change = IsRelock state index change × (moves change ≡ true)

-- a call stops since the lock isn't current
abbrev pub IsStale : Stop → Type 0
IsStale (stops.Stale text) = ⊤
IsStale stop = ⊥

-- how a call stops where a lock over this index is refused, or memory is wanting
abbrev pub StopsRelock : StateParts → Index → Stop → Type 0
StopsRelock state index stop =
    (stop ≡ stops.Fault streams.OutOfMemory) ⊎ ((refusal : Refusal) × (refusal ≢ NothingChanges) × EditResult state Relock (whole index) (Err refusal) × (stop ≡ stop_of (fault_of refusal)))
