use Rattle.std.proofs.Common.{arith}
use Rattle.std.proofs.lemmas.Grind.{common_steps}
use Rattle.pep440.proofs.reading.local_parts.Goals as goal

pub returns-in_err-part : goal.returns-in_err-part
returns-in_err-part c = grind (arith, common_steps)

pub pieces-smaller : goal.pieces-smaller
pieces-smaller c = grind (arith, common_steps)

pub pieces-preserved : goal.pieces-preserved
pieces-preserved c = grind (arith, common_steps)

pub returns-in_err-last : goal.returns-in_err-last
returns-in_err-last c = grind (arith, common_steps)

pub returns : goal.returns
returns c = grind (arith, common_steps)
