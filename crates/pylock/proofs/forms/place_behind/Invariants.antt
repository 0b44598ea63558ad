use Rattle.std.proofs.Common.{◌≡◌, drop, map}
use Rattle.pylock.specs.Forms.{after}
use Rattle.pylock.proofs.forms.place_behind.Given as goal

abbrev pub invariant-loop-place : goal.invariant-loop-place
invariant-loop-place l = after l.key (map (λ k. k.now) (drop l.place l.known)) ≡ after l.key (map (λ k. k.now) (drop l.from l.known))
