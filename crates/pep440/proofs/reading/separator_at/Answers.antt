use Rattle.std.proofs.Common.{sym, arith, false}
use Rattle.pep440.proofs.SpansRead.{local-at, local-one, locals-at, locals-one}
use Rattle.pep440.proofs.reading.separator_at.Goals as goal

pub returns-then-is_separator-clause-some : goal.returns-then-is_separator-clause-some
returns-then-is_separator-clause-some c = locals-at c.args.text.now c.loop-i.i c.loop-i-test.true c.loop-i.invariant (sym c.if-is_separator.ensures)

pub returns-then-is_separator-clause-some_within : goal.returns-then-is_separator-clause-some_within
returns-then-is_separator-clause-some_within c = local-at false c.args.text.now c.loop-i.i c.loop-i-test.true c.loop-i.invariant (sym c.if-is_separator.ensures)

pub returns-clause-none : goal.returns-clause-none
returns-clause-none c = locals-one c.args.text.now (λ k h. c.loop-i.invariant k (omega arith))

pub returns-clause-none_within : goal.returns-clause-none_within
returns-clause-none_within c = local-one false c.args.text.now (λ k h. c.loop-i.invariant k (omega arith))
