use Rattle.std.proofs.Common.{sym}
use Rattle.journal.proofs.Neighbours.{pushed-to}
use Rattle.journal.proofs.change_history.ChangeHistoryHistory.push.Goals as goal

pub invariant_of-self-2 : goal.invariant_of-self-2
invariant_of-self-2 c =
    (pushed-to c.self.inside.state c.self.inside.changes.items c.self.inside.cursor c.args.edited.change c.args.edited.state c.push_at.new.changes.items c.in_ok-place.place c.self.invariant
    (rw (sym c.self.view_is) at c.requires) c.recall_invariant.ensures c.in_ok-place.ensures.pushed c.in_ok-place.ensures.place).history

pub returns-clause-past : goal.returns-clause-past
returns-clause-past c =
    let moved = pushed-to c.self.inside.state c.self.inside.changes.items c.self.inside.cursor c.args.edited.change c.args.edited.state c.push_at.new.changes.items c.in_ok-place.place c.self.invariant
    (rw (sym c.self.view_is) at c.requires) c.recall_invariant.ensures c.in_ok-place.ensures.pushed c.in_ok-place.ensures.place in
    rw (sym c.self.view_is) (λ i. record { states = moved.same i; cursor = c.in_ok-place.ensures.place i })
