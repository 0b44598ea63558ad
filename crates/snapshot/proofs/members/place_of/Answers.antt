use Rattle.std.proofs.Common.{sym, ◌∙◌}
use Rattle.snapshot.proofs.KeyFacts.{behind-none, is_here, is_later, is_past}
use Rattle.snapshot.proofs.members.place_of.Goals as goal

pub loop-place-init : goal.loop-place-init
loop-place-init c = behind-none _

pub returns-then-eq-clause-place : goal.returns-then-eq-clause-place
returns-then-eq-clause-place c = is_here (λ other. other.now) c.args.keys.now c.args.key.now c.loop-place.place _ _ c.loop-place-test.true (sym c.eq.ensures ∙ c.if-eq.true) c.loop-place.invariant

pub loop-place-preserved : goal.loop-place-preserved
loop-place-preserved c = is_later (λ other. other.now) c.args.keys.now c.args.key.now c.loop-place.place _ _ c.loop-place-test.true (sym c.eq.ensures ∙ c.if-eq.false) c.loop-place.invariant

pub returns-clause-place : goal.returns-clause-place
returns-clause-place c = is_past (λ other. other.now) c.args.keys.now c.args.key.now c.loop-place.place _ c.loop-place-test.false c.loop-place.invariant
