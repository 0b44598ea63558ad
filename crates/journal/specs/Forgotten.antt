-- A history without its first steps. All of it is reqlock's own rule.
use Rattle.std.specs.Prelude.{ℕ, ◌-◌, drop}
use Rattle.journal.specs.Changes.{HistoryParts}

-- a history without its first states and steps, so many of each; its place is so many less
abbrev pub forgotten : ℕ → HistoryParts → HistoryParts
forgotten count history = record {
  past = record { states = drop count history.past.states; cursor = history.past.cursor - count };
  changes = drop count history.changes;
}
