use Rattle.exports.proofs.SameRules.{best-same}
use Rattle.exports.proofs.laws.who_answers_alike_has_the_same_best_solution.Goals as goal

pub returns : goal.returns
returns c = best-same
