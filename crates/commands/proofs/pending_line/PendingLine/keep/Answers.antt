use Rattle.commands.proofs.Lines.{unbroken_kept}
use Rattle.commands.proofs.pending_line.PendingLine.keep.Goals as goal

pub invariant_of-self : goal.invariant_of-self
invariant_of-self c = (rw c.append_held.ensures.items (unbroken_kept 65537 _ _ c.self.invariant.0 c.requires), c.append_held.ensures.held, c.append_held.ensures.room)
