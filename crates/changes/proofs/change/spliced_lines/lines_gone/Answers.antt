use Rattle.std.proofs.Common.{refl}
use Rattle.states.proofs.PartFacts.{not-so}
use Rattle.changes.proofs.SplicedFacts.{AreGoneTo-done, AreGoneTo-next, AreGoneTo-start, AreGoneTo-stops}
use Rattle.changes.proofs.change.spliced_lines.lines_gone.Goals as goal

pub loop-splice-init : goal.loop-splice-init
loop-splice-init c = rw c.new-gone.ensures.items (AreGoneTo-start c.args.splices.now c.args.lines.now)

pub loop-splice-preserved : goal.loop-splice-preserved
loop-splice-preserved c =
    rw (c.in_ok-keep.ensures, c.len.ensures)
    (AreGoneTo-next c.args.splices.now c.loop-splice.splice-index c.splice-item.result c.args.lines.now c.loop-splice.from c.loop-splice.gone.items
    c.loop-splice-test.true c.splice-item.is c.loop-splice.invariant _ refl (c.if-not-stands_at.ensures.0 refl))

pub returns-then-not-stands_at : goal.returns-then-not-stands_at
returns-then-not-stands_at c =
    AreGoneTo-stops c.args.splices.now c.loop-splice.splice-index c.splice-item.result c.args.lines.now c.loop-splice.from c.loop-splice.gone.items
    c.loop-splice-test.true c.splice-item.is c.loop-splice.invariant (λ s. not-so (c.if-not-stands_at.ensures.1 s))

pub returns : goal.returns
returns c = rw c.from_vec.ensures
    (AreGoneTo-done c.args.splices.now c.loop-splice.splice-index c.args.lines.now c.loop-splice.from c.loop-splice.gone.items c.loop-splice-test.false c.loop-splice.invariant)
