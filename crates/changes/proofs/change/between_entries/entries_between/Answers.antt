use Rattle.changes.proofs.BetweenEntries.{IsMadeTo-end, IsMadeTo-next, IsMadeTo-start, least-fewer}
use Rattle.changes.proofs.change.between_entries.entries_between.Goals as goal

pub names-init : goal.names-init
names-init c = rw c.new-made.ensures.items (IsMadeTo-start c.args.target.now c.args.old.now c.args.new.now c.requires.old c.requires.new)

pub names-preserved : goal.names-preserved
names-preserved c =
    let put = rw (c.cut.ensures.first, c.cut-in-Some.ensures.first) at c.in_ok-append_change.ensures in
    rw (c.cut.ensures.behind, c.cut-in-Some.ensures.behind)
    (IsMadeTo-next c.args.target.now c.args.old.now c.args.new.now c.names.old_left.now c.names.new_left.now c.names.made.items c.append_change.new.made.items c.in-Some.name.now c.in-Some.ensures put c.names.invariant)

pub names-smaller : goal.names-smaller
names-smaller c = rw (c.cut.ensures.behind, c.cut-in-Some.ensures.behind) (least-fewer c.in-Some.name.now c.names.old_left.now c.names.new_left.now c.in-Some.ensures)

pub returns : goal.returns
returns c =
    let made = IsMadeTo-end c.args.target.now c.args.old.now c.args.new.now c.names.old_left.now c.names.new_left.now c.names.made.items c.in_default.ensures.0 c.in_default.ensures.1 c.names.invariant in
    rw c.from_vec.ensures (record { leads = made.leads; minimal = made.minimal; own = made.own })
