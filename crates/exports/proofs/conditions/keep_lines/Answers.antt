use Rattle.std.proofs.Common.{◌≡◌, true}
use Rattle.exports.specs.Tied.Answers.{is_line_alike}
use Rattle.exports.proofs.KeptConditions.{kept-more, kept-start, kept-whole}
use Rattle.exports.proofs.conditions.keep_lines.Goals as goal

pub loop-line-init : goal.loop-line-init
loop-line-init c = kept-start (λ other line. is_line_alike c.args.environment.now other line ≡ true) c.args.environment.now c.args.conditions.now c.args.lines.now

pub loop-line-preserved : goal.loop-line-preserved
loop-line-preserved c =
    kept-more (λ other line. is_line_alike c.args.environment.now other line ≡ true) c.args.environment.now c.args.conditions.now c.loop-line.conditions c.keep_marker.new.conditions c.args.lines.now c.loop-line.line-index c.line-item.result c.loop-line-test.true c.line-item.is
    c.loop-line.invariant (rw c.marker_of.ensures at c.in_ok-keep_marker.ensures)

pub returns : goal.returns
returns c = kept-whole (λ other line. is_line_alike c.args.environment.now other line ≡ true) c.args.environment.now c.args.conditions.now c.loop-line.conditions c.args.lines.now c.loop-line.line-index c.loop-line-test.false c.loop-line.invariant
