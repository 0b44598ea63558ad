-- How a history is shortened. All of it is reqlock's own rule.
use Rattle.std.specs.Prelude.{◌≡◌, ◌<◌, ◌-◌, ℕ, Option, None, Some, IsSomeAnd, if◌then◌else◌, nat_le}
use Rattle.command_line.specs.declared.invocation.Beginning.{Beginning}
use Rattle.command_line.specs.declared.invocation.Beginning.TheVariants.{At, Back}
use Rattle.journal.specs.Changes.{HistoryParts}
use Rattle.journal.specs.Forgotten.{forgotten}
use Rattle.journal.specs.declared.commands.Reply.{Reply}
use Rattle.journal.specs.declared.commands.Reply.TheVariants.{Done, Same, Refused}
use Rattle.stops.specs.declared.stop.Stop.{Stop}
use Rattle.stops.specs.declared.stop.Stop.TheVariants as stops

-- how many states stand before the one with which a history is to begin that stands in this place; none where it doesn't stand so far
abbrev pub forgotten_count : Beginning → ℕ → Option ℕ
forgotten_count (At place) cursor = if nat_le place cursor then Some place else None
forgotten_count (Back count) cursor = if nat_le count cursor then Some (cursor - count) else None

-- the history is without these states and their steps, and the reply has its place; where there are none, it is as it was
abbrev pub IsShortened : Beginning → HistoryParts → HistoryParts → Reply → Type 0
IsShortened beginning old new (Done place) =
    IsSomeAnd (forgotten_count beginning old.past.cursor) (λ count. (0 < count) × (new ≡ forgotten count old) × (place ≡ new.past.cursor))
IsShortened beginning old new Same = (forgotten_count beginning old.past.cursor ≡ Some 0) × (new ≡ old)
IsShortened beginning old new (Refused refusal) = ⊥

-- the history doesn't stand so far, and is as it was
abbrev pub StopsShortening : Beginning → HistoryParts → HistoryParts → Stop → Type 0
StopsShortening beginning old new stop =
    (forgotten_count beginning old.past.cursor ≡ None) × (stop ≡ stops.NoBeginning beginning old.past.cursor) × (new ≡ old)
