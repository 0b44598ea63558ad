use Rattle.std.proofs.Common.{◌≡◌, drop}
use Rattle.toml.specs.View.{items_view}
use Rattle.pylock.specs.Forms.{each}
use Rattle.pylock.proofs.ReadSoFar.{before}
use Rattle.pylock.proofs.forms.each.Given as goal

abbrev pub invariant-loop-place : goal.invariant-loop-place
invariant-loop-place g l = before l.items.items (each g.T.Read.reading (items_view (drop l.place l.values))) ≡ each g.T.Read.reading (items_view l.values)
