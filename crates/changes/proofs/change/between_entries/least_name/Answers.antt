use Rattle.std.proofs.Common.{sym}
use Rattle.changes.proofs.BetweenEntries.{least-new, least-of-new, least-of-old, least-old}
use Rattle.changes.proofs.change.between_entries.least_name.Goals as goal

pub returns-then-is_lt : goal.returns-then-is_lt
returns-then-is_lt c =
    let order = rw (c.cmp.ensures, c.normal.ensures, c.normal-in-Some-Some.ensures, c.name-come.ensures, c.name-gone.ensures) at c.if-is_lt.ensures in
    rw c.name-come.ensures
    (least-new c.args.old.now c.args.new.now c.in-Some-Some.gone.now c.in-Some-Some.come.now c.in-Some-Some.ensures.value c.in-Some-Some.ensures'.value (sym order))

pub returns-else-is_lt : goal.returns-else-is_lt
returns-else-is_lt c =
    let order = rw (c.cmp.ensures, c.normal.ensures, c.normal-in-Some-Some.ensures, c.name-come.ensures, c.name-gone.ensures) at c.if-is_lt.ensures in
    rw c.name-gone.ensures
    (least-old c.args.old.now c.args.new.now c.in-Some-Some.gone.now c.in-Some-Some.come.now c.in-Some-Some.ensures.value c.in-Some-Some.ensures'.value (sym order))

pub returns-in-Some-None : goal.returns-in-Some-None
returns-in-Some-None c = rw c.name.ensures (least-of-old c.args.old.now c.args.new.now c.in-Some-None.gone.now c.in-Some-None.ensures.value c.in-Some-None.ensures'.value)

pub returns-in-None-Some : goal.returns-in-None-Some
returns-in-None-Some c =
    rw c.name-in-None-Some.ensures (least-of-new c.args.old.now c.args.new.now c.in-None-Some.come.now c.in-None-Some.ensures.value c.in-None-Some.ensures'.value)
