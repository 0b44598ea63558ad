use Rattle.std.proofs.Common.{string_bytes}
use Rattle.texts.proofs.SplicesTold.{one-more}
use Rattle.texts.proofs.diff_text.add_splices.Goals as goal

pub loop-splice-preserved : goal.loop-splice-preserved
loop-splice-preserved c = one-more c.args.style.colors (string_bytes c.args.text.now) (string_bytes c.loop-splice.text) (string_bytes c.add_splice.new.text)
    c.loop-splice.put c.loop-splice.taken c.saturating_add-put.result c.saturating_add-taken.result c.len-in-loop-splice.result c.len.result c.loop-splice.splice-index
    c.args.splices.now c.splice-item.result c.loop-splice-test.true c.splice-item.is c.loop-splice.invariant c.in_ok-add_splice.ensures.plain
    c.len-in-loop-splice.ensures c.len.ensures c.saturating_add-put.ensures c.saturating_add-taken.ensures
