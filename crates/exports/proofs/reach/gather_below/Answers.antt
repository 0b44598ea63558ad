use Rattle.exports.specs.Tied.Reach.{needs_of}
use Rattle.exports.proofs.AskedRequirements.{gathers-all, gathers-next, gathers-nothing}
use Rattle.exports.proofs.reach.gather_below.Goals as goal

pub loop-release-init : goal.loop-release-init
loop-release-init c = gathers-nothing c.args.asked.now

pub loop-release-preserved : goal.loop-release-preserved
loop-release-preserved c =
    gathers-next (needs_of c.args.above.now) c.releases-releases.result.now c.loop-release.release-index c.release-item.result c.args.asked.now c.loop-release.asked c.gather_needs.new.asked
    c.loop-release-test.true c.release-item.is c.loop-release.invariant c.in_ok-gather_needs.ensures

pub returns : goal.returns
returns c =
    rw (c.releases-releases.ensures.listed, c.name.ensures) at
    (gathers-all (needs_of c.args.above.now) c.releases-releases.result.now c.loop-release.release-index c.args.asked.now c.loop-release.asked c.loop-release-test.false c.loop-release.invariant)
