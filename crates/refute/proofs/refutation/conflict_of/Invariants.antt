use Rattle.std.proofs.Common.{◌≡◌, map, take}
use Rattle.refute.specs.Tied.Told.{choice_at}
use Rattle.refute.proofs.refutation.conflict_of.Given as goal

abbrev pub invariant-loop-decision : goal.invariant-loop-decision
invariant-loop-decision l = l.choices.items ≡ map (choice_at l.problem l.tabled.names l.tabled.nodes l.tabled.table) (take l.decision-index l.decisions)
