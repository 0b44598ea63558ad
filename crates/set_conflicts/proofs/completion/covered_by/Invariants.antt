use Rattle.set_conflicts.specs.Tied.Covers.{Covers}
use Rattle.set_conflicts.proofs.completion.covered_by.Given as goal

abbrev pub invariant-loop-at : goal.invariant-loop-at
invariant-loop-at l = Covers l.earlier l.conflict l.node l.covered
