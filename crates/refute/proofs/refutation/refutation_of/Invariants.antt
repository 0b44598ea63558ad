use Rattle.std.proofs.Common.{◌≡◌, map, take}
use Rattle.refute.specs.Tied.Told.{choice_at}
use Rattle.refute.proofs.refutation.refutation_of.Given as goal

abbrev pub invariant-loop-decisions : goal.invariant-loop-decisions
invariant-loop-decisions l = l.refuted.items ≡ map (map (choice_at l.problem l.tabled.names l.tabled.nodes l.tabled.table)) (take l.decisions-index l.conflicts)
