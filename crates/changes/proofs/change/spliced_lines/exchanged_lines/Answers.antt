use Rattle.std.proofs.Common.{refl, arith}
use Rattle.changes.proofs.ExchangedLines.{IsExchangedFrom-done, IsExchangedFrom-next, IsExchangedFrom-start, put-last, room}
use Rattle.changes.proofs.change.spliced_lines.exchanged_lines.Goals as goal

pub loop-done-init : goal.loop-done-init
loop-done-init c = rw (c.into_vec-after.ensures, c.into_vec-left.ensures, c.requires.put) (IsExchangedFrom-start c.args.splices.now c.args.lines _ (omega arith))

pub put_in-requires : goal.put_in-requires
put_in-requires c =
    rw c.len-in-loop-done-2.ensures
    (room c.args.splices.now c.args.lines c.loop-done.done _ c.index-splices-place.result c.loop-done.after.items c.loop-done.left.items
    c.requires.rising c.requires.leads c.loop-done-test.true refl c.index-splices-place.is c.loop-done.invariant)

pub loop-done-preserved : goal.loop-done-preserved
loop-done-preserved c =
    let last = put-last c.args.splices.now c.args.lines c.loop-done.done _ c.index-splices-place.result c.loop-done.after.items c.loop-done.left.items
    c.requires.rising c.requires.leads c.loop-done-test.true refl c.index-splices-place.is c.loop-done.invariant in
    rw (c.in_ok-put_in.ensures, c.in_ok-new.ensures.items, c.in_ok-new.ensures.tail, c.len.ensures, c.loop-done.left.ok.0, c.len-in-loop-done.ensures, c.len-in-loop-done-2.ensures, last)
    (IsExchangedFrom-next c.args.splices.now c.args.lines c.loop-done.done _ c.index-splices-place.result c.loop-done.after.items c.loop-done.left.items
    c.requires.rising c.requires.leads c.loop-done-test.true refl c.index-splices-place.is c.loop-done.invariant)

pub returns : goal.returns
returns c = rw c.from_vec.ensures
    (IsExchangedFrom-done c.args.splices.now c.args.lines c.loop-done.done c.loop-done.after.items c.loop-done.left.items c.loop-done-test.false c.loop-done.invariant)
