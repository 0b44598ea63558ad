use Rattle.set_refutations.proofs.SetsGrounded.{ground-decides}
use Rattle.set_refutations.proofs.checker.follows.Goals as goal

pub returns : goal.returns
returns c = rw c.is_some.ensures (ground-decides c.args.problem.now c.args.earlier.now c.args.conflict.now c.set_ground_of.result (rw c.all.ensures at c.set_ground_of.ensures))
