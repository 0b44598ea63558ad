use Rattle.journal.proofs.BegunFacts.{all_behind}
use Rattle.journal.proofs.journal.bytes_behind.Goals as goal

pub returns : goal.returns
returns c = all_behind c.args.place c.args.bytes.now
