use Rattle.std.proofs.Common.{refl}
use Rattle.changes.proofs.change.carried_over.are_touched_met.Goals as goal

pub returns-then-not-are_lines_met-clause-only : goal.returns-then-not-are_lines_met-clause-only
returns-then-not-are_lines_met-clause-only c = λ all. (rw c.entries-entries.ensures at c.if-not-are_lines_met.ensures).1 all.0

pub returns-clause-met : goal.returns-clause-met
returns-clause-met c = λ h.
    let put = rw c.entries-entries.ensures at c.if-not-are_lines_met.ensures in
    let changed = rw (c.entries-entries.ensures, c.own_changes-own.ensures) at c.are_changed_met.ensures.met in
    (record { put_in = put.0 refl; changed = changed h }, c.recall_invariant.ensures)

pub returns-clause-only : goal.returns-clause-only
returns-clause-only c = λ all. (rw c.entries-entries.ensures at c.are_changed_met.ensures.only) all.1
