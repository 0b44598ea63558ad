use Rattle.std.proofs.Common.{sym, arith}
use Rattle.std.proofs.lemmas.Grind.{common_steps}
use Rattle.refute.proofs.set_refutation.set_refutation_of.Goals as goal

pub set_conflict_of-requires-clause-known : goal.set_conflict_of-requires-clause-known
set_conflict_of-requires-clause-known c term there =
    c.requires.known c.terms-item.result term (c.loop-terms.terms-index, c.loop-terms-test.true, sym c.terms-item.is)
    (rw c.as_slice.ensures at there)

pub returns : goal.returns
returns c = grind (arith, common_steps)
