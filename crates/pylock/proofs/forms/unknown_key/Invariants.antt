use Rattle.std.proofs.Common.{◌≡◌, drop, map}
use Rattle.toml.specs.View.{members_view}
use Rattle.pylock.specs.Forms.{unknown_in}
use Rattle.pylock.proofs.forms.unknown_key.Given as goal

abbrev pub invariant-loop-key : goal.invariant-loop-key
invariant-loop-key l = unknown_in (map (λ k. k.now) (drop l.from l.known)) (members_view l.key-iterator) ≡ unknown_in (map (λ k. k.now) l.known) (members_view l.table.entries)
