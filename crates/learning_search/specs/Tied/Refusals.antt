-- Candidates that are refused in turn.
-- Tied to `Follows` by the contract of `learned_best`; need not be read.
use Rattle.std.specs.Prelude.{ℕ, List, [], ◌∷◌, ◌≡◌, ◌+◌}
use Rattle.search.specs.declared.conflict.NodeChoice.{NodeChoice}
use Rattle.learning_search.specs.declared.candidate_queue.CandidateQueue.{CandidateQueue}
use Rattle.learning_search.specs.Tied.Gathering.{Gathers}

-- one candidate more is refused, for a conflict that it completes
pub record RefusesOneMore (old new : CandidateQueue) (conflict : List (NodeChoice ℕ ℕ)) (candidate : NodeChoice ℕ ℕ) : Type 0 where
  pub node : new.node ≡ old.node
  pub leads : new.leads ≡ old.leads
  pub by : new.by ≡ old.by
  pub turn : new.turn ≡ old.turn + 1
  pub blame : Gathers old.blame.items new.blame.items conflict (candidate ∷ [])
