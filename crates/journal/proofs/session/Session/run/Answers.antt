use Rattle.std.proofs.Common.{sym}
use Rattle.journal.proofs.session.Session.run.Goals as goal

pub returns-clause-run : goal.returns-clause-run
returns-clause-run g c = rw (sym c.self.view_is) c.run.ensures.run

pub returns-clause-changes : goal.returns-clause-changes
returns-clause-changes g c = rw (sym c.self.view_is) c.run.ensures.changes

pub returns-clause-kept : goal.returns-clause-kept
returns-clause-kept g c = rw (sym c.self.view_is) c.run.ensures.kept
