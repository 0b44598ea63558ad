use Rattle.journal_format.proofs.Depths.{step-depth}
use Rattle.journal_format.proofs.Floats.{step-plain}
use Rattle.journal.proofs.saved.push_step.Goals as goal

pub push_line-requires-clause-plain : goal.push_line-requires-clause-plain
push_line-requires-clause-plain c = rw c.in_ok-value.ensures (step-plain c.args.change.now)

pub push_line-requires-clause-depth : goal.push_line-requires-clause-depth
push_line-requires-clause-depth c = rw c.in_ok-value.ensures (step-depth c.args.change.now)
