use Rattle.std.proofs.Common.{arith}
use Rattle.std.proofs.lemmas.Bool.{eq-eqb}
use Rattle.pep440.proofs.SetFacts.{pieces-at, pieces-one}
use Rattle.pep440.proofs.sets.comma_at.Goals as goal

pub returns-then-text-i-eq44-clause-some : goal.returns-then-text-i-eq44-clause-some
returns-then-text-i-eq44-clause-some c =
    pieces-at c.args.text.now c.loop-i.i c.loop-i-test.true c.loop-i.invariant (eq-eqb _ _ c.if-text-i-eq44.true)

pub returns-clause-none : goal.returns-clause-none
returns-clause-none c = pieces-one c.args.text.now (λ k h. c.loop-i.invariant k (omega arith))
