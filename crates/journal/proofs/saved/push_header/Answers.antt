use Rattle.journal_format.proofs.Depths.{header-depth}
use Rattle.journal_format.proofs.Floats.{header-plain}
use Rattle.journal.proofs.saved.push_header.Goals as goal

pub push_line-requires-clause-plain : goal.push_line-requires-clause-plain
push_line-requires-clause-plain c = rw c.in_ok-value.ensures (header-plain c.args.header.now)

pub push_line-requires-clause-depth : goal.push_line-requires-clause-depth
push_line-requires-clause-depth c = rw c.in_ok-value.ensures (header-depth c.args.header.now)
