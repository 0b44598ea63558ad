use Rattle.std.proofs.Common.{rules}
use Rattle.learning_search.proofs.candidate_queue.CandidateQueue.refuse.Goals as goal

pub returns : goal.returns
returns c = search rules
