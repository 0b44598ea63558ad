use Rattle.std.proofs.Common.{rules}
use Rattle.pep440.proofs.matching.below.Goals as goal

pub returns-then-is_pre : goal.returns-then-is_pre
returns-then-is_pre c = search rules

pub returns-after-is_pre-2 : goal.returns-after-is_pre-2
returns-after-is_pre-2 c = search rules
