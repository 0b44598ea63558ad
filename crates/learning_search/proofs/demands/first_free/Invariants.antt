use Rattle.std.proofs.Common.{take, map, ℕ}
use Rattle.std.specs.List.{Contains}
use Rattle.learning_search.specs.Tied.Gathering.{choice_at, decision}
use Rattle.learning_search.proofs.demands.first_free.Given as goal

abbrev pub invariant-loop-node : goal.invariant-loop-node
invariant-loop-node l = (node : ℕ) → Contains (take l.node-index l.nodes) node → (v : ℕ) × Contains (map choice_at l.choices.entries) (decision node v)
