use Rattle.changes.specs.Tied.Only.{IsTheOnly}
use Rattle.changes.specs.Tied.Retargeted.{Becomes, IsOfParts}
use Rattle.changes.proofs.Retargeted.{becomes-parts, stuck-entries, stuck-environment}
use Rattle.changes.proofs.TargetChanges.{AreEntryChanges-on}
use Rattle.states.proofs.PartFacts.{IfOk-onto}
use Rattle.changes.proofs.change.retargeted.becomes.Goals as goal

pub returns-in_default : goal.returns-in_default
returns-in_default c =
    stuck-environment c.args.change.now c.args.digest c.args.targets.now c.args.name.now
    (rw (c.in_default.is, c.item_on-changed.ensures, c.item_on-old.ensures, c.targets.ensures) at c.in_ok-environment.ensures)

pub exchanged-requires-clause-changes : goal.exchanged-requires-clause-changes
exchanged-requires-clause-changes c =
    rw (c.own_changes-own.ensures, c.entries.ensures) (AreEntryChanges-on c.args.name.now c.args.change.now.entries c.recall_invariant.ensures.entries)

pub returns-in_default-2 : goal.returns-in_default-2
returns-in_default-2 c =
    stuck-entries c.args.change.now c.args.digest c.args.targets.now c.args.name.now
    (rw (c.in_default-2.is, c.own_changes-own.ensures, c.entries.ensures, c.entries_in.ensures.entries, c.item_on-old.ensures) at c.in_ok-entries.ensures)

pub returns : goal.returns
returns c =
    let environment = rw (c.in-Some.is, c.item_on-changed.ensures, c.item_on-old.ensures, c.targets.ensures) at c.in_ok-environment.ensures in
    let entries = rw (c.in-Some-2.is, c.own_changes-own.ensures, c.entries.ensures, c.entries_in.ensures.entries, c.item_on-old.ensures) at c.in_ok-entries.ensures in
    IfOk-onto (IsTheOnly (IsOfParts c.args.name.now c.in-Some.environment c.args.digest c.in-Some-2.entries)) (IsTheOnly (Becomes c.args.change.now c.args.digest c.args.targets.now c.args.name.now)) c.target_of.result
    (becomes-parts c.args.change.now c.args.digest c.args.targets.now c.args.name.now c.in-Some.environment c.in-Some-2.entries environment entries) c.target_of.ensures
