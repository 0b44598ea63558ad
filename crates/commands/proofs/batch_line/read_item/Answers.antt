use Rattle.std.proofs.Common.{rules}
use Rattle.commands.proofs.batch_line.read_item.Goals as goal

pub returns-clause-item : goal.returns-clause-item
returns-clause-item c = search rules

pub returns-clause-memory : goal.returns-clause-memory
returns-clause-memory c = search rules
