-- How a call stops between two places of a history. All of it is reqlock's own rule.
use Rattle.std.specs.Prelude.{◌≡◌, ◌⊎◌, ℕ, ◌<◌, ◌≤◌, length}
use Rattle.commands.specs.declared.batch.StreamFault.TheVariants as streams
use Rattle.journal.specs.Past.{Past}
use Rattle.stops.specs.declared.stop.Stop.{Stop}
use Rattle.stops.specs.declared.stop.Stop.TheVariants as stops

-- at the first place that the history hasn't, or for want of memory
abbrev pub StopsBetween : Past → ℕ → ℕ → Stop → Type 0
StopsBetween past from to stop =
    ((stop ≡ stops.NoPlace from) × (length past.states ≤ from)) ⊎ ((stop ≡ stops.NoPlace to) × (from < length past.states) × (length past.states ≤ to)) ⊎ (stop ≡ stops.Fault streams.OutOfMemory)
