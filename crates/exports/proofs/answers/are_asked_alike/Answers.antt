use Rattle.std.proofs.Common.{◌≡◌, ◌∙◌, true, sym, subst}
use Rattle.exports.specs.Tied.Answers.{are_matched_alike}
use Rattle.exports.proofs.EachAnswer.{all-broken, all-so}
use Rattle.exports.proofs.EachOf.{each-more, each-whole, item-there}
use Rattle.exports.proofs.answers.are_asked_alike.Goals as goal

pub loop-wanted-preserved : goal.loop-wanted-preserved
loop-wanted-preserved c =
    each-more (λ x. are_matched_alike c.args.one.now c.args.other.now c.args.snapshot.now x ≡ true) c.args.asked.now c.loop-wanted.wanted-index c.wanted-item.result c.loop-wanted-test.true c.loop-wanted.invariant
    (subst (λ x. are_matched_alike c.args.one.now c.args.other.now c.args.snapshot.now x ≡ true) c.wanted-item.is (rw (c.releases-releases.ensures.listed, c.name.ensures) at (sym c.in_ok-are_matched_alike.ensures ∙ c.if-not-branch.false)))

pub returns-then-not-branch : goal.returns-then-not-branch
returns-then-not-branch c =
    sym (all-broken (are_matched_alike c.args.one.now c.args.other.now c.args.snapshot.now) c.args.asked.now c.wanted-item.result
    (item-there c.args.asked.now c.loop-wanted.wanted-index c.wanted-item.result c.loop-wanted-test.true c.wanted-item.is)
    (rw (c.releases-releases.ensures.listed, c.name.ensures) at (sym c.in_ok-are_matched_alike.ensures ∙ c.if-not-branch.true)))

pub returns : goal.returns
returns c = sym (all-so (are_matched_alike c.args.one.now c.args.other.now c.args.snapshot.now) c.args.asked.now (each-whole (λ x. are_matched_alike c.args.one.now c.args.other.now c.args.snapshot.now x ≡ true) c.args.asked.now c.loop-wanted.wanted-index c.loop-wanted-test.false c.loop-wanted.invariant))
