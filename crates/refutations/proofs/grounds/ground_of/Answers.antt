use Rattle.std.proofs.Common.{refl}
use Rattle.refutations.proofs.Grounded.{ground-whole}
use Rattle.refutations.proofs.grounds.ground_of.Goals as goal

pub returns : goal.returns
returns c = ground-whole _ c.args.problem.now c.args.earlier.now c.args.conflict.now c.found_ground.result refl c.found_ground.ensures
