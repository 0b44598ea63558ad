use Rattle.std.proofs.Common.{◌≡◌, true, false, arith}
use Rattle.std.specs.Ordering.{is_lt, nat_cmp}
use Rattle.std.specs.Cmp.Lexicographic.{slice_cmp}
use Rattle.lists.proofs.RisingItems.{goes_on, is_done, stops}
use Rattle.lists.proofs.name_order.rises.Goals as goal

pub returns-then-not-is_lt : goal.returns-then-not-is_lt
returns-then-not-is_lt g c =
    let less : is_lt (slice_cmp nat_cmp (g.T.Named.named c.index-items-place.result) (g.T.Named.named c.index-items-place-in-loop-place.result)) ≡ false = rw (← c.text-before.ensures, ← c.text.ensures, ← c.cmp.ensures, ← c.is_lt.ensures) c.if-not-is_lt.true in
    stops g.T.Named.named c.args.items.now c.loop-place.place c.index-items-place.result c.index-items-place-in-loop-place.result c.loop-place.invariant.0 c.loop-place-test.true c.index-items-place.is c.index-items-place-in-loop-place.is less c.loop-place.invariant.1

pub loop-place-preserved : goal.loop-place-preserved
loop-place-preserved g c =
    let less : is_lt (slice_cmp nat_cmp (g.T.Named.named c.index-items-place.result) (g.T.Named.named c.index-items-place-in-loop-place.result)) ≡ true = rw (← c.text-before.ensures, ← c.text.ensures, ← c.cmp.ensures, ← c.is_lt.ensures) c.if-not-is_lt.false in
    (omega arith, goes_on g.T.Named.named c.args.items.now c.loop-place.place c.index-items-place.result c.index-items-place-in-loop-place.result c.loop-place.invariant.0 c.loop-place-test.true c.index-items-place.is c.index-items-place-in-loop-place.is less c.loop-place.invariant.1)

pub returns : goal.returns
returns g c = is_done g.T.Named.named c.args.items.now c.loop-place.place c.loop-place.invariant.0 c.loop-place-test.false c.loop-place.invariant.1
