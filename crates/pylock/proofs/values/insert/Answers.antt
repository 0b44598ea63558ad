use Rattle.pylock.proofs.TableFacts.{inserted}
use Rattle.pylock.proofs.values.insert.Goals as goal

pub returns : goal.returns
returns c = rw (c.in_ok-insert.ensures.entries, ← c.in_ok-key.ensures.ok) (inserted c.args.table.now.entries c.in_ok-key.key c.args.value)
