use Rattle.std.proofs.Common.{◌≡◌, ◌∙◌, true, sym, subst}
use Rattle.exports.specs.Tied.Answers.{is_line_alike}
use Rattle.exports.proofs.EachAnswer.{all-broken, all-so}
use Rattle.exports.proofs.EachOf.{each-more, each-whole, item-there}
use Rattle.exports.proofs.answers.are_lines_alike.Goals as goal

pub loop-line-preserved : goal.loop-line-preserved
loop-line-preserved c =
    each-more (λ x. is_line_alike c.args.one.now c.args.other.now x ≡ true) c.args.lines.now c.loop-line.line-index c.line-item.result c.loop-line-test.true c.loop-line.invariant
    (subst (λ x. is_line_alike c.args.one.now c.args.other.now x ≡ true) c.line-item.is (rw c.marker_of.ensures at (sym c.in_ok-is_marker_alike.ensures ∙ c.if-not-branch.false)))

pub returns-then-not-branch : goal.returns-then-not-branch
returns-then-not-branch c =
    sym (all-broken (is_line_alike c.args.one.now c.args.other.now) c.args.lines.now c.line-item.result
    (item-there c.args.lines.now c.loop-line.line-index c.line-item.result c.loop-line-test.true c.line-item.is)
    (rw c.marker_of.ensures at (sym c.in_ok-is_marker_alike.ensures ∙ c.if-not-branch.true)))

pub returns : goal.returns
returns c = sym (all-so (is_line_alike c.args.one.now c.args.other.now) c.args.lines.now (each-whole (λ x. is_line_alike c.args.one.now c.args.other.now x ≡ true) c.args.lines.now c.loop-line.line-index c.loop-line-test.false c.loop-line.invariant))
