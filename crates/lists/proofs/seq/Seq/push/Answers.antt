use Rattle.std.proofs.Common.{rules}
use Rattle.lists.proofs.seq.Seq.push.Goals as goal

pub returns-clause-items : goal.returns-clause-items
returns-clause-items g c = search rules
