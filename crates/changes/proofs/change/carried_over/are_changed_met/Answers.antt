use Rattle.std.proofs.Common.{sym, subst}
use Rattle.states.specs.Tied.LockForLines.{IsLineMet}
use Rattle.states.proofs.PartFacts.{AllByRecursion-at, All-of}
use Rattle.changes.specs.Tied.CarriedOver.{IsChangedMet}
use Rattle.changes.proofs.CarriedTests.{empty-list, none-touched}
use Rattle.changes.proofs.change.carried_over.are_changed_met.Goals as goal

pub returns-then-is_empty-clause-met : goal.returns-then-is_empty-clause-met
returns-then-is_empty-clause-met c = λ h.
    All-of (IsChangedMet c.args.environment.now c.args.entries.now c.args.changes.now) c.args.lines.now
    (λ line there. none-touched c.args.environment.now c.args.entries.now c.args.changes.now line (empty-list c.args.changes.now (sym c.if-is_empty.ensures)))

pub returns-then-not-is_changed_met-clause-only : goal.returns-then-not-is_changed_met-clause-only
returns-then-not-is_changed_met-clause-only c = λ all.
    let here = subst (IsLineMet c.args.environment.now c.args.entries.now) (sym c.line-item.is)
    (AllByRecursion-at (IsLineMet c.args.environment.now c.args.entries.now) c.args.lines.now c.loop-line.line-index c.line-item.result c.loop-line-test.true all) in
    c.if-not-is_changed_met.ensures.only here
