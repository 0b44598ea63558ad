use Rattle.std.proofs.Common.{arith}
use Rattle.std.proofs.lemmas.Grind.{common_steps}
use Rattle.changes.proofs.change.spliced_lines.stands_at.Goals as goal

pub returns-then-splice-lines : goal.returns-then-splice-lines
returns-then-splice-lines c = grind (arith, common_steps)
