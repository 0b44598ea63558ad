use Rattle.std.proofs.Common.{take, ◌∷◌, []}
use Rattle.learning_search.specs.Tied.Gathering.{Gathers}
use Rattle.learning_search.proofs.decisions.insert_all.Given as goal

abbrev pub invariant-loop-decision : goal.invariant-loop-decision
invariant-loop-decision l = Gathers l.fn.decisions.items l.decisions.items (take l.decision-index l.conflict) (l.left_out ∷ [])
