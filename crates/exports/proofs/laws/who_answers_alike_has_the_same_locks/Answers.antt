use Rattle.exports.proofs.SameRules.{best-same, lock-same}
use Rattle.exports.proofs.laws.who_answers_alike_has_the_same_locks.Goals as goal

pub returns : goal.returns
returns c = λ lines index environment other h. lock-same lines index environment other (best-same lines index environment other h)
