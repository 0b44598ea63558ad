use Rattle.std.proofs.Common.{◌≡◌, true, false, arith}
use Rattle.std.specs.Ordering.{is_lt}
use Rattle.changes.specs.Changes.{entry_change_cmp}
use Rattle.changes.proofs.TargetChanges.{rise-done, rise-on, rise-stops}
use Rattle.changes.proofs.change.by_target.rise_by_target.Goals as goal

pub returns-then-not-comes_before : goal.returns-then-not-comes_before
returns-then-not-comes_before c =
    let less : is_lt (entry_change_cmp c.index-changes-place.result c.index-changes-place-in-loop-place.result) ≡ false = rw (← c.comes_before.ensures) c.if-not-comes_before.true in
    rise-stops c.args.changes.now c.loop-place.place c.index-changes-place.result c.index-changes-place-in-loop-place.result c.loop-place.invariant.0 c.loop-place-test.true
    c.index-changes-place.is c.index-changes-place-in-loop-place.is less c.loop-place.invariant.1

pub loop-place-preserved : goal.loop-place-preserved
loop-place-preserved c =
    let less : is_lt (entry_change_cmp c.index-changes-place.result c.index-changes-place-in-loop-place.result) ≡ true = rw (← c.comes_before.ensures) c.if-not-comes_before.false in (
      omega arith,
      rise-on c.args.changes.now c.loop-place.place c.index-changes-place.result c.index-changes-place-in-loop-place.result c.loop-place.invariant.0 c.loop-place-test.true
          c.index-changes-place.is c.index-changes-place-in-loop-place.is less c.loop-place.invariant.1,
    )

pub returns : goal.returns
returns c = rise-done c.args.changes.now c.loop-place.place c.loop-place.invariant.0 c.loop-place-test.false c.loop-place.invariant.1
