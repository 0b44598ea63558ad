use Rattle.std.proofs.Common.{refl}
use Rattle.changes.proofs.CarriedTests.{asked-at}
use Rattle.changes.proofs.change.carried_over.is_asked.Goals as goal

pub returns-then-asks_for : goal.returns-then-asks_for
returns-then-asks_for c = λ h.
    asked-at c.args.environment.now c.args.lines.now c.loop-line.line-index c.line-item.result c.args.name.now c.loop-line-test.true c.line-item.is (c.if-asks_for.ensures refl)
