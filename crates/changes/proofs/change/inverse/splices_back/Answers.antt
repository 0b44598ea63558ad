use Rattle.std.proofs.Common.{sym, ◌∙◌, arith}
use Rattle.changes.proofs.EndsFacts.{IsBackTo-end, IsBackTo-next, IsBackTo-start, IsBackTo-stops}
use Rattle.changes.proofs.change.inverse.splices_back.Goals as goal

pub loop-place-init : goal.loop-place-init
loop-place-init c = record {
  begun = omega arith;
  made = rw (c.ends_of-ends.ensures.ends, c.in_ok-push.ensures.items, c.in_ok-splice_back.ensures, c.in_ok-made.ensures.items)
      (IsBackTo-start c.args.splices.now c.in-Some.first.now c.in-Some.ensures.value c.ends_of-ends.ensures.fits);
}

pub loop-place-preserved : goal.loop-place-preserved
loop-place-preserved c = record {
  begun = omega arith;
  made = rw (c.ends_of-ends-in-loop-place.ensures.ends, c.in_ok-push-2.ensures.items, c.in_ok-splice_back-2.ensures)
      (IsBackTo-next c.args.splices.now c.loop-place.place c.index-splices-place.result c.loop-place.ends c.in-Some-place_behind.moved c.loop-place.made.items
      c.loop-place-test.true c.index-splices-place.is c.ends_of-ends-in-loop-place.ensures.fits (sym c.place_behind.ensures ∙ c.in-Some-place_behind.is) c.loop-place.invariant.made);
}

pub unreachable-requires : goal.unreachable-requires
unreachable-requires c = IsBackTo-stops c.args.splices.now c.loop-place.place c.index-splices-place.result c.loop-place.ends c.loop-place.made.items
    c.loop-place-test.true c.index-splices-place.is (sym c.place_behind.ensures ∙ c.in_default-place_behind.is) c.loop-place.invariant.made c.requires

pub returns : goal.returns
returns c = rw c.from_vec-2.ensures (IsBackTo-end c.args.splices.now c.loop-place.place c.loop-place.ends c.loop-place.made.items c.loop-place-test.false c.loop-place.invariant.made)
