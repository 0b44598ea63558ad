use Rattle.exports.proofs.AskedRequirements.{gathers-covered, gathers-pushed}
use Rattle.exports.proofs.reach.gather.Goals as goal

pub returns-then-covers : goal.returns-then-covers
returns-then-covers c = gathers-covered c.args.asked.now c.args.wanted.now (c.covers.ensures c.if-covers.true)

pub returns : goal.returns
returns c = gathers-pushed c.args.asked.now c.push.new.self c.args.wanted.now c.in_ok-push.ensures
