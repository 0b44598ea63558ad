use Rattle.changes.proofs.BetweenTargets.{between-done, between-next, between-start}
use Rattle.changes.proofs.change.between_targets.locks_between.Goals as goal

pub loop-name-init : goal.loop-name-init
loop-name-init c = rw c.new-made.ensures.items (between-start c.args.old.now c.args.new.now c.args.names.now)

pub loop-name-preserved : goal.loop-name-preserved
loop-name-preserved c =
    let leads = rw (c.entries_in-from.ensures.entries, c.entries_in-to.ensures.entries, c.item_on.ensures, c.item_on-in-loop-name.ensures) at c.in_ok-own.ensures.leads in
    rw (c.in_ok-append.ensures.items, c.into_vec.ensures)
    (between-next c.args.old.now c.args.new.now c.args.names.now c.loop-name.name-index c.name-item.result c.loop-name.made.items c.in_ok-own.own c.requires c.loop-name-test.true c.name-item.is
    leads c.in_ok-own.ensures.minimal c.in_ok-own.ensures.own c.loop-name.invariant)

pub returns : goal.returns
returns c =
    rw c.from_vec.ensures (between-done c.args.old.now c.args.new.now c.args.names.now c.loop-name.name-index c.loop-name.made.items c.loop-name-test.false c.loop-name.invariant)
