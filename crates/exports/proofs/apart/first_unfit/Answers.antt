use Rattle.std.proofs.Common.{subst}
use Rattle.exports.specs.Joint.{Fit}
use Rattle.exports.proofs.EachOf.{each-more}
use Rattle.exports.proofs.apart.first_unfit.Goals as goal

pub loop-other-preserved : goal.loop-other-preserved
loop-other-preserved c =
    each-more (Fit c.args.lines.now c.args.snapshot.now c.args.one.now) c.args.targets.now c.loop-other.other-index c.other-item.result c.loop-other-test.true c.loop-other.invariant
    (subst (Fit c.args.lines.now c.args.snapshot.now c.args.one.now) c.other-item.is (c.in_ok-do_fit.ensures.fit c.if-not-branch.false))
