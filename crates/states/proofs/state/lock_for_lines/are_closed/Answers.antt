use Rattle.std.proofs.Common.{sym, subst}
use Rattle.std.specs.List.{AllByRecursion}
use Rattle.states.specs.Tied.LockForLines.{IsClosed}
use Rattle.states.proofs.PartFacts.{AllByRecursion-at, not-so}
use Rattle.states.proofs.state.lock_for_lines.are_closed.Goals as goal

pub returns-then-not-are_on_entries : goal.returns-then-not-are_on_entries
returns-then-not-are_on_entries c =
    let here = λ (all : AllByRecursion (IsClosed c.args.entries.now) c.args.some.now). subst (IsClosed c.args.entries.now) (sym c.entry-item.is)
    (AllByRecursion-at (IsClosed c.args.entries.now) c.args.some.now c.loop-entry.entry-index c.entry-item.result c.loop-entry-test.true all) in
    (λ h. absurd (not-so h), λ all. (rw c.dependencies.ensures at c.if-not-are_on_entries.ensures).1 (here all))
