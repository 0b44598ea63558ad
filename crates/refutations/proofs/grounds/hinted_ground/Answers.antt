use Rattle.refutations.proofs.Grounded.{ground-hinted}
use Rattle.refutations.proofs.grounds.hinted_ground.Goals as goal

pub returns : goal.returns
returns c = ground-hinted _ c.args.problem.now c.args.earlier.now c.args.conflict.now c.found_ground.result c.found_ground.ensures
