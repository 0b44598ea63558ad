use Rattle.std.proofs.Common.{◌≡◌, None}
use Rattle.refutations.proofs.Grounded.{ground-last}
use Rattle.refutations.proofs.grounds.found_ground.Goals as goal

pub returns : goal.returns
returns c =
    let given = c.args.problem.now in
    ground-last (c.args.earlier.hints ≡ None) given c.args.earlier.conflicts.now c.args.conflict.now c.exhausted.result c.in_default.ensures c.in_default-clashing.ensures (c.in_default-differing.ensures given) c.exhausted.ensures
