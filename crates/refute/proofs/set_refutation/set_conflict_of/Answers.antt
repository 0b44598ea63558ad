use Rattle.std.proofs.Common.{sym}
use Rattle.refute.proofs.set_refutation.set_conflict_of.Goals as goal

pub set_term_of-requires-clause-known : goal.set_term_of-requires-clause-known
set_term_of-requires-clause-known c = c.requires.known c.term-item.result (c.loop-term.term-index, c.loop-term-test.true, sym c.term-item.is)
