use Rattle.std.proofs.Common.{sym, ◌∙◌}
use Rattle.pylock.proofs.FormFacts.{no_key, other_key, this_key}
use Rattle.pylock.proofs.forms.place_behind.Goals as goal

pub returns-then-eq : goal.returns-then-eq
returns-then-eq c = this_key (λ k. k.now) c.args.key.now c.args.known.now c.loop-place.place _ _ c.loop-place-test.true (sym c.eq.ensures ∙ c.if-eq.true) c.loop-place.invariant

pub loop-place-preserved : goal.loop-place-preserved
loop-place-preserved c = other_key (λ k. k.now) c.args.key.now c.args.known.now c.loop-place.place _ _ c.loop-place-test.true (sym c.eq.ensures ∙ c.if-eq.false) c.loop-place.invariant

pub returns : goal.returns
returns c = no_key (λ k. k.now) c.args.key.now c.args.known.now c.loop-place.place _ c.loop-place-test.false c.loop-place.invariant
