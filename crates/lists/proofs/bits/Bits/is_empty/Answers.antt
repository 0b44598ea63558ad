use Rattle.std.proofs.Common.{arith}
use Rattle.lists.proofs.bits.Bits.is_empty.Goals as goal

pub returns-in-None-clause-empty : goal.returns-in-None-clause-empty
returns-in-None-clause-empty c _ n h = let l = c.in-None.ensures n h in omega arith
