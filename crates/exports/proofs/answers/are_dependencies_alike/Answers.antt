use Rattle.std.proofs.Common.{◌≡◌, ◌∙◌, true, sym, subst}
use Rattle.exports.specs.Tied.Answers.{is_wanted_alike}
use Rattle.exports.proofs.EachAnswer.{all-broken, all-so}
use Rattle.exports.proofs.EachOf.{each-more, each-whole, item-there}
use Rattle.exports.proofs.answers.are_dependencies_alike.Goals as goal

pub loop-dependency-preserved : goal.loop-dependency-preserved
loop-dependency-preserved c =
    each-more (λ x. is_wanted_alike c.args.one.now c.args.other.now x ≡ true) c.args.dependencies.now c.loop-dependency.dependency-index c.dependency-item.result c.loop-dependency-test.true c.loop-dependency.invariant
    (subst (λ x. is_wanted_alike c.args.one.now c.args.other.now x ≡ true) c.dependency-item.is (rw c.marker.ensures at (sym c.in_ok-is_marker_alike.ensures ∙ c.if-not-branch.false)))

pub returns-then-not-branch : goal.returns-then-not-branch
returns-then-not-branch c =
    sym (all-broken (is_wanted_alike c.args.one.now c.args.other.now) c.args.dependencies.now c.dependency-item.result
    (item-there c.args.dependencies.now c.loop-dependency.dependency-index c.dependency-item.result c.loop-dependency-test.true c.dependency-item.is)
    (rw c.marker.ensures at (sym c.in_ok-is_marker_alike.ensures ∙ c.if-not-branch.true)))

pub returns : goal.returns
returns c = sym (all-so (is_wanted_alike c.args.one.now c.args.other.now) c.args.dependencies.now (each-whole (λ x. is_wanted_alike c.args.one.now c.args.other.now x ≡ true) c.args.dependencies.now c.loop-dependency.dependency-index c.loop-dependency-test.false c.loop-dependency.invariant))
