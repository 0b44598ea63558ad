use Rattle.exports.proofs.reach.covers_near.Goals as goal

pub returns-then-covers_at : goal.returns-then-covers_at
returns-then-covers_at c = λ is. c.covers_at.ensures c.if-covers_at.true
