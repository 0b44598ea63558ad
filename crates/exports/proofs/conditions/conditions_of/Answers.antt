use Rattle.exports.proofs.EachAnswer.{answers-alike}
use Rattle.exports.proofs.SameRules.{best-same, lock-same}
use Rattle.exports.proofs.conditions.conditions_of.Goals as goal

pub returns-clause-alike : goal.returns-clause-alike
returns-clause-alike c = λ other h.
    answers-alike c.the_relations_decide.ensures c.args.lines.now c.args.snapshot.now c.args.environment.now other (rw c.lines-lines.ensures at c.in_ok-conditions.ensures.answers other h)

pub returns-clause-best : goal.returns-clause-best
returns-clause-best c = λ other h.
    best-same c.args.lines.now c.args.snapshot.now c.args.environment.now other
    (answers-alike c.the_relations_decide.ensures c.args.lines.now c.args.snapshot.now c.args.environment.now other (rw c.lines-lines.ensures at c.in_ok-conditions.ensures.answers other h))

pub returns-clause-lock : goal.returns-clause-lock
returns-clause-lock c = λ other h.
    lock-same c.args.lines.now c.args.snapshot.now c.args.environment.now other
    (best-same c.args.lines.now c.args.snapshot.now c.args.environment.now other
    (answers-alike c.the_relations_decide.ensures c.args.lines.now c.args.snapshot.now c.args.environment.now other (rw c.lines-lines.ensures at c.in_ok-conditions.ensures.answers other h)))
