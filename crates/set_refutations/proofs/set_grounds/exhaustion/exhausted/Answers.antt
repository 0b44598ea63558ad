use Rattle.set_refutations.proofs.SetsGrounded.{exhausted-last}
use Rattle.set_refutations.proofs.set_grounds.exhaustion.exhausted.Goals as goal

pub returns : goal.returns
returns c = exhausted-last c.args.problem.now c.args.earlier.now c.args.conflict.now c.exhausted_by_term.result c.in_default.ensures c.exhausted_by_term.ensures
