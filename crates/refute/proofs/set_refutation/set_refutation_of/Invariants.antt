use Rattle.std.proofs.Common.{◌≡◌, map, take}
use Rattle.refute.specs.Tied.Told.{term_at}
use Rattle.refute.proofs.set_refutation.set_refutation_of.Given as goal

abbrev pub invariant-loop-terms : goal.invariant-loop-terms
invariant-loop-terms l = l.refuted.items ≡ map (map (term_at l.problem l.tabled.names l.tabled.nodes l.tabled.table)) (take l.terms-index l.conflicts)
