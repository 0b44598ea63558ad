use Rattle.std.proofs.Common.{refl}
use Rattle.states.proofs.PartFacts.{not-so}
use Rattle.changes.proofs.EntriesExchanged.{rises-left, slice-of}
use Rattle.changes.proofs.EntriesExchangedAt.{IsExchangedAt-done, IsExchangedAt-next, IsExchangedAt-start, IsExchangedAt-stops}
use Rattle.changes.proofs.change.exchanged_entries.exchanged.Goals as goal

pub loop-change-init : goal.loop-change-init
loop-change-init c = rw c.in_ok-after.ensures.items (IsExchangedAt-start c.args.changes.now c.args.entries.now c.requires.entries)

pub cut_at-requires : goal.cut_at-requires
cut_at-requires c = rises-left c.loop-change.after.items c.loop-change.rest.now c.loop-change.invariant.so_far.new_rises

pub returns-then-not-is_old : goal.returns-then-not-is_old
returns-then-not-is_old c =
    IsExchangedAt-stops c.args.changes.now c.loop-change.change-index c.change-item.result c.args.entries.now c.loop-change.rest.now c.loop-change.after.items _ _ _
    c.requires.changes c.loop-change-test.true c.change-item.is c.cut_at.ensures (λ same. not-so (c.if-not-is_old.ensures.1 same)) c.loop-change.invariant

pub loop-change-preserved : goal.loop-change-preserved
loop-change-preserved c =
    let new = slice-of c.change-item.result.new c.as_slice.result.now c.as_slice.ensures in
    rw (c.in_ok-keep-2.ensures, c.in_ok-keep.ensures, new)
    (IsExchangedAt-next c.args.changes.now c.loop-change.change-index c.change-item.result c.args.entries.now c.loop-change.rest.now c.loop-change.after.items _ _ _
    c.requires.changes c.loop-change-test.true c.change-item.is c.cut_at.ensures (c.if-not-is_old.ensures.0 refl) c.loop-change.invariant)

pub returns : goal.returns
returns c = rw (c.from_vec.ensures, c.in_ok-keep-3.ensures)
    (IsExchangedAt-done c.args.changes.now c.loop-change.change-index c.args.entries.now c.loop-change.rest.now c.loop-change.after.items c.loop-change-test.false c.loop-change.invariant)
