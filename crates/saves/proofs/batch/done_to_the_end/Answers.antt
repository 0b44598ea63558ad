use Rattle.saves.proofs.batch.done_to_the_end.Goals as goal

pub returns : goal.returns
returns g c = c.in_ok-batch_to_its_end.ensures.done
