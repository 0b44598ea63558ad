use Rattle.std.proofs.Common.{sym}
use Rattle.journal.specs.Commands.{asked_of}
use Rattle.journal.proofs.RunFacts.{refused-kept}
use Rattle.journal.proofs.session.Session.apply.Goals as goal

pub returns-clause-step : goal.returns-clause-step
returns-clause-step g c = rw (sym c.self.view_is) c.apply.ensures.step

pub returns-clause-changes : goal.returns-clause-changes
returns-clause-changes g c = rw (sym c.self.view_is) c.apply.ensures.changes

pub returns-clause-kept : goal.returns-clause-kept
returns-clause-kept g c =
    rw (sym c.self.view_is) (λ refusal is. refused-kept _ _ (asked_of c.args.command.now) _ refusal c.apply.ensures.step c.apply.ensures.changes is)
