use Rattle.set_refutations.proofs.SetsGrounded.{ground-last}
use Rattle.set_refutations.proofs.set_grounds.set_ground_of.Goals as goal

pub returns : goal.returns
returns c =
    let given = c.args.problem.now in
    ground-last given c.args.earlier.now c.args.conflict.now c.exhausted.result c.in_default.ensures c.in_default-clashing.ensures c.in_default-each_version_completes.ensures c.exhausted.ensures
