use Rattle.pylock.proofs.BackFacts.{lock-back}
use Rattle.pylock.proofs.lock.Lock.to_table.Goals as goal

pub returns-clause-reads_back : goal.returns-clause-reads_back
returns-clause-reads_back c = rw c.in_ok-table.ensures (lock-back c.a_canonical_text_is_read.ensures c.args.self.now c.recall_invariant.ensures)
