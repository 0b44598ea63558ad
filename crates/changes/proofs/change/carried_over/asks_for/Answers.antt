use Rattle.std.proofs.Common.{◌∙◌, refl, sym}
use Rattle.changes.proofs.CarriedTests.{asks-from}
use Rattle.changes.proofs.change.carried_over.asks_for.Goals as goal

pub returns-in-Some : goal.returns-in-Some
returns-in-Some c = λ h.
    asks-from c.args.environment.now c.args.line.now c.in-Some.requirement.now c.args.name.now c.in-Some.ensures
    (sym c.name.ensures ∙ c.if-is_same.ensures.0 refl) (sym c.is_active.ensures ∙ h)
