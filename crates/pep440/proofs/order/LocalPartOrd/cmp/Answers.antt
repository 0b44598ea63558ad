use Rattle.std.proofs.Common.{rules}
use Rattle.pep440.proofs.order.LocalPartOrd.cmp.Goals as goal

pub returns-in-Word-Number : goal.returns-in-Word-Number
returns-in-Word-Number c = search rules
