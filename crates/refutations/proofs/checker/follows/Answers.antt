use Rattle.refutations.proofs.Grounded.{ground-decides}
use Rattle.refutations.proofs.checker.follows.Goals as goal

pub returns : goal.returns
returns c = rw c.is_some.ensures (ground-decides c.args.problem.now c.args.earlier.now c.args.conflict.now c.ground_by.result c.ground_by.ensures)
