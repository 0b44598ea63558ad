use Rattle.std.proofs.Common.{sym}
use Rattle.pep440.proofs.SpansRead.{number-large}
use Rattle.pep440.proofs.reading.number_of.Goals as goal

pub returns-in_default : goal.returns-in_default
returns-in_default c =
    sym (number-large c.loop-digit.value c.loop-digit.digit-index _ c.args.digits.now c.loop-digit-test.true c.in_default.ensures.none c.loop-digit.invariant.whole)
