use Rattle.changes.proofs.change.carried_over.is_asked.Given as goal

abbrev pub invariant-loop-line : goal.invariant-loop-line
invariant-loop-line l = Unit {0}
