use Rattle.changes.proofs.CarriedTests.{changed-met}
use Rattle.changes.proofs.change.carried_over.is_changed_met.Goals as goal

pub returns-in-Some-clause-met : goal.returns-in-Some-clause-met
returns-in-Some-clause-met c = λ h.
    changed-met c.args.environment.now c.args.entries.now c.args.changes.now c.args.line.now (c.is_line_met.ensures.0 h)

pub returns-in-Some-clause-only : goal.returns-in-Some-clause-only
returns-in-Some-clause-only c = c.is_line_met.ensures.1
