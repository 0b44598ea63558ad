use Rattle.changes.proofs.EntriesExchangedAt.{IsExchangedAt}
use Rattle.changes.proofs.change.exchanged_entries.exchanged.Given as goal

abbrev pub invariant-loop-change : goal.invariant-loop-change
invariant-loop-change l = IsExchangedAt l.changes l.change-index l.entries l.rest l.after.items
