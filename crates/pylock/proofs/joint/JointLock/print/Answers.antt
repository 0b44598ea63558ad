use Rattle.pylock.proofs.DateFacts.{joint-valid}
use Rattle.pylock.proofs.DepthFacts.{joint-depth}
use Rattle.pylock.proofs.joint.JointLock.print.Goals as goal

pub printed-requires-clause-depth : goal.printed-requires-clause-depth
printed-requires-clause-depth c = rw c.in_ok-table.ensures (joint-depth c.args.self.now)

pub printed-requires-clause-dates : goal.printed-requires-clause-dates
printed-requires-clause-dates c = rw c.in_ok-table.ensures (joint-valid c.args.self.now)
