use Rattle.exports.proofs.EachOf.{item-there}
use Rattle.exports.proofs.reach.is_followed.Goals as goal

pub returns-then-does_say : goal.returns-then-does_say
returns-then-does_say c = λ is.
    (c.clause-item.result, item-there c.args.clauses.now c.loop-clause.clause-index c.clause-item.result c.loop-clause-test.true c.clause-item.is, c.does_say.ensures c.if-does_say.true)
