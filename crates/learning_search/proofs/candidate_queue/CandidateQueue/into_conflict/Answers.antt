use Rattle.std.proofs.Common.{List, Option, ℕ, Some, option_to_list, [], sym, ap, subst}
use Rattle.learning_search.proofs.Sets.{gathers-nothing}
use Rattle.search.specs.declared.conflict.NodeChoice.{NodeChoice}
use Rattle.learning_search.specs.Tied.Gathering.{Gathers}
use Rattle.learning_search.proofs.candidate_queue.CandidateQueue.into_conflict.Goals as goal
use Rattle.learning_search.proofs.candidate_queue.CandidateQueue.into_conflict.Goals.{in-Some+in_ok-insert, in_default}

pub returns : goal.returns
returns c = elim c.match-by.branch [
  | in-Some+in_ok-insert w ↦ subst (λ (o : Option (NodeChoice ℕ ℕ)). Gathers c.args.self.blame.items c.match-by.blame.items (option_to_list o) []) (sym w.in-Some.is)
      (subst (λ (xs : List (NodeChoice ℕ ℕ)). Gathers c.args.self.blame.items xs (option_to_list (Some w.in-Some.by)) []) (sym (ap (λ v. v.items) w.blame-is)) w.in_ok-insert.ensures)
  | in_default w ↦ subst (λ (o : Option (NodeChoice ℕ ℕ)). Gathers c.args.self.blame.items c.match-by.blame.items (option_to_list o) []) (sym w.in_default.is)
      (subst (λ (xs : List (NodeChoice ℕ ℕ)). Gathers c.args.self.blame.items xs [] []) (sym (ap (λ v. v.items) w.blame-is)) (gathers-nothing c.args.self.blame.items []))
]
