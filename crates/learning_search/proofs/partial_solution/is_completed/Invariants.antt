use Rattle.std.proofs.Common.{take, map}
use Rattle.learning_search.specs.Tied.Gathering.{IsWithin, choice_at}
use Rattle.learning_search.proofs.partial_solution.is_completed.Given as goal

abbrev pub invariant-loop-decision : goal.invariant-loop-decision
invariant-loop-decision l = IsWithin (take l.decision-index l.conflict) (map choice_at l.choices.entries) l.candidate
