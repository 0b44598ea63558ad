use Rattle.explain.proofs.grounds.ground_at.Goals as goal

pub returns : goal.returns
returns c = rw c.few.ensures at c.set_ground_of.ensures
