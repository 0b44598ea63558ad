use Rattle.changes.specs.Tied.Between.{target_change_on}
use Rattle.changes.proofs.ByName.{on_names-more}
use Rattle.changes.proofs.change.between_targets.changes_between.Goals as goal

pub loop-name-preserved : goal.loop-name-preserved
loop-name-preserved c =
    rw (c.in_ok-push_some.ensures, c.in_ok-change.ensures, c.item_on.ensures, c.item_on-in-loop-name.ensures)
    (on_names-more (target_change_on c.args.old.now c.args.new.now) c.args.names.now c.loop-name.name-index c.name-item.result c.loop-name.made.items _ c.loop-name-test.true c.name-item.is c.loop-name.invariant)
