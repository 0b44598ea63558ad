use Rattle.std.proofs.Common.{◌≡◌, drop}
use Rattle.serde_json.specs.View.{items_view}
use Rattle.journal_format.specs.Forms.{each}
use Rattle.journal_format.specs.Lines.{entry_change_in}
use Rattle.pylock.proofs.ReadSoFar.{before}
use Rattle.journal_format.proofs.steps.entry_changes_of.Given as goal

abbrev pub invariant-loop-place : goal.invariant-loop-place
invariant-loop-place l =
    before l.items.items (each (entry_change_in l.header) (items_view (drop l.place l.values))) ≡ each (entry_change_in l.header) (items_view l.values)
