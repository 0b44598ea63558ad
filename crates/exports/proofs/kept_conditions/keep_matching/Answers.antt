use Rattle.std.proofs.Common.{◌≡◌, true}
use Rattle.exports.specs.Tied.Answers.{is_matched_alike}
use Rattle.exports.proofs.KeptConditions.{kept-more, kept-start, kept-whole}
use Rattle.exports.proofs.kept_conditions.keep_matching.Goals as goal

pub loop-release-init : goal.loop-release-init
loop-release-init c = kept-start (λ other release. is_matched_alike c.args.environment.now other c.args.wanted.now release ≡ true) c.args.environment.now c.args.conditions.now c.args.releases.now

pub loop-release-preserved : goal.loop-release-preserved
loop-release-preserved c =
    kept-more (λ other release. is_matched_alike c.args.environment.now other c.args.wanted.now release ≡ true) c.args.environment.now c.args.conditions.now c.loop-release.conditions c.keep_matched.new.conditions c.args.releases.now c.loop-release.release-index c.release-item.result c.loop-release-test.true c.release-item.is
    c.loop-release.invariant (c.in_ok-keep_matched.ensures)

pub returns : goal.returns
returns c = kept-whole (λ other release. is_matched_alike c.args.environment.now other c.args.wanted.now release ≡ true) c.args.environment.now c.args.conditions.now c.loop-release.conditions c.args.releases.now c.loop-release.release-index c.loop-release-test.false c.loop-release.invariant
