use Rattle.explain.proofs.grounds.ground_among.Goals as goal

pub returns : goal.returns
returns c = rw c.all.ensures at c.set_ground_of.ensures
