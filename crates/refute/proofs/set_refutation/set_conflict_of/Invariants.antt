use Rattle.std.proofs.Common.{◌≡◌, map, take}
use Rattle.refute.specs.Tied.Told.{term_at}
use Rattle.refute.proofs.set_refutation.set_conflict_of.Given as goal

abbrev pub invariant-loop-term : goal.invariant-loop-term
invariant-loop-term l = l.made.items ≡ map (term_at l.problem l.tabled.names l.tabled.nodes l.tabled.table) (take l.term-index l.terms)
