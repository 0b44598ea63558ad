use Rattle.changes.proofs.TargetChanges.{AreEntryChanges-on}
use Rattle.changes.proofs.change.outcome.moved.Goals as goal

pub exchanged-requires-clause-changes : goal.exchanged-requires-clause-changes
exchanged-requires-clause-changes c =
    rw (c.own_changes-own.ensures, c.entries.ensures) (AreEntryChanges-on c.args.target.now.name c.args.change.now.entries c.recall_invariant.ensures.entries)
