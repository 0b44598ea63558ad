use Rattle.std.proofs.Common.{sym}
use Rattle.journal.proofs.Neighbours.{present-is}
use Rattle.journal.proofs.change_history.ChangeHistoryHistory.state.Goals as goal

pub returns : goal.returns
returns c = rw (sym c.self.view_is) (record { present = present-is c.self.inside.state c.self.inside.changes.items c.self.inside.cursor c.self.invariant.within })
