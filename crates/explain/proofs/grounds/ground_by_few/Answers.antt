use Rattle.explain.proofs.Fewer.{found-fewer}
use Rattle.set_refutations.proofs.Lent.{few-among}
use Rattle.explain.proofs.grounds.ground_by_few.Goals as goal

pub returns : goal.returns
returns c =
    let earlier = c.args.earlier.now in
    found-fewer c.args.problem.now _ earlier (few-among earlier _ c.in-Ok.ensures) c.args.conflict.now _ _ (rw c.as_slice.ensures.value at c.ground_at.ensures)
