use Rattle.std.proofs.Common.{sym, arith}
use Rattle.journal.proofs.Histories.{AreSteps-count}
use Rattle.journal.specs.Tied.Neighbours.{states_of}
use Rattle.journal.proofs.change_history.ChangeHistory.count.Goals as goal

pub returns-clause-states : goal.returns-clause-states
returns-clause-states c =
    let states = states_of c.self.inside.state c.self.inside.changes.items c.self.inside.cursor in
    let count = AreSteps-count states c.self.inside.changes.items c.self.invariant.steps in
    rw (sym c.self.view_is) (omega (arith, count, c.len.ensures))

pub returns-clause-lead : goal.returns-clause-lead
returns-clause-lead c = rw (sym c.self.view_is) c.self.invariant.steps

pub returns-clause-lawful : goal.returns-clause-lawful
returns-clause-lawful c = rw (sym c.self.view_is) c.self.invariant.lawful
