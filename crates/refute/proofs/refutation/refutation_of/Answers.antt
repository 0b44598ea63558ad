use Rattle.std.proofs.Common.{sym, arith}
use Rattle.std.proofs.lemmas.Grind.{common_steps}
use Rattle.refute.proofs.refutation.refutation_of.Goals as goal

pub conflict_of-requires-clause-known : goal.conflict_of-requires-clause-known
conflict_of-requires-clause-known c decision there =
    c.requires.known c.decisions-item.result decision (c.loop-decisions.decisions-index, c.loop-decisions-test.true, sym c.decisions-item.is)
    (rw c.as_slice.ensures at there)

pub returns : goal.returns
returns c = grind (arith, common_steps)
