use Rattle.std.proofs.Common.{subst}
use Rattle.exports.specs.Tied.Reach.{IsFollowed}
use Rattle.exports.proofs.EachOf.{each-more, each-whole}
use Rattle.exports.proofs.reach.are_followed.Goals as goal

pub loop-wanted-preserved : goal.loop-wanted-preserved
loop-wanted-preserved c =
    each-more (IsFollowed c.args.clauses.now) c.args.wide.now c.loop-wanted.wanted-index c.wanted-item.result c.loop-wanted-test.true c.loop-wanted.invariant
    (subst (IsFollowed c.args.clauses.now) c.wanted-item.is (c.is_followed.ensures c.if-not-is_followed.false))

pub returns : goal.returns
returns c = λ is. each-whole (IsFollowed c.args.clauses.now) c.args.wide.now c.loop-wanted.wanted-index c.loop-wanted-test.false c.loop-wanted.invariant
