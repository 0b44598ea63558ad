use Rattle.std.proofs.Common.{◌≡◌, ◌∙◌, true, sym, subst}
use Rattle.exports.specs.Tied.Answers.{is_matched_alike}
use Rattle.exports.proofs.EachAnswer.{all-broken, all-so}
use Rattle.exports.proofs.EachOf.{each-more, each-whole, item-there}
use Rattle.exports.proofs.answers.are_matched_alike.Goals as goal

pub loop-release-preserved : goal.loop-release-preserved
loop-release-preserved c =
    each-more (λ x. is_matched_alike c.args.one.now c.args.other.now c.args.wanted.now x ≡ true) c.args.releases.now c.loop-release.release-index c.release-item.result c.loop-release-test.true c.loop-release.invariant
    (subst (λ x. is_matched_alike c.args.one.now c.args.other.now c.args.wanted.now x ≡ true) c.release-item.is ((sym c.in_ok-is_matched_alike.ensures ∙ c.if-not-branch.false)))

pub returns-then-not-branch : goal.returns-then-not-branch
returns-then-not-branch c =
    sym (all-broken (is_matched_alike c.args.one.now c.args.other.now c.args.wanted.now) c.args.releases.now c.release-item.result
    (item-there c.args.releases.now c.loop-release.release-index c.release-item.result c.loop-release-test.true c.release-item.is)
    ((sym c.in_ok-is_matched_alike.ensures ∙ c.if-not-branch.true)))

pub returns : goal.returns
returns c = sym (all-so (is_matched_alike c.args.one.now c.args.other.now c.args.wanted.now) c.args.releases.now (each-whole (λ x. is_matched_alike c.args.one.now c.args.other.now c.args.wanted.now x ≡ true) c.args.releases.now c.loop-release.release-index c.loop-release-test.false c.loop-release.invariant))
