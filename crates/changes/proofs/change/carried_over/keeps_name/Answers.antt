use Rattle.changes.proofs.CarriedTests.{keeps-from}
use Rattle.changes.proofs.change.carried_over.keeps_name.Goals as goal

pub returns-in-Some : goal.returns-in-Some
returns-in-Some c = λ h.
    keeps-from c.args.environment.now c.args.lines.now c.args.line.now c.in-Some.requirement.now c.in-Some.ensures (rw c.name.ensures at (c.is_asked.ensures h))
