use Rattle.std.proofs.Common.{◌≡◌, ◌∙◌, sym, ap}
use Rattle.changes.specs.Tied.SplicedLines.{put_by}
use Rattle.lists.proofs.Members.{take-whole}
use Rattle.changes.proofs.ExchangedLines.{put-more}
use Rattle.changes.proofs.LinesCarried.{all-put-read}
use Rattle.changes.proofs.change.spliced_lines.lines_put.Goals as goal

pub loop-splice-preserved : goal.loop-splice-preserved
loop-splice-preserved c =
    let new : c.in-Some.lines.items ≡ c.splice-item.result.new = (rw c.in-Some.is at c.in_ok-lines.ensures) ∙ c.as_slice.ensures in
    rw (c.in_ok-append.ensures.items, c.loop-splice.invariant, new)
    (sym (put-more c.args.splices.now c.loop-splice.splice-index c.splice-item.result c.loop-splice-test.true c.splice-item.is))

pub returns-in_default : goal.returns-in_default
returns-in_default c =
    let refused = rw c.as_slice.ensures at (rw c.in_default.is at c.in_ok-lines.ensures) in
    all-put-read c.args.splices.now c.loop-splice.splice-index c.splice-item.result c.loop-splice-test.true c.splice-item.is refused

pub returns : goal.returns
returns c = rw (c.from_vec.ensures, c.loop-splice.invariant) (ap put_by (take-whole c.args.splices.now c.loop-splice.splice-index c.loop-splice-test.false))
