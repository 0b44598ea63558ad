use Rattle.saves.proofs.forget.noted.Goals as goal

pub returns : goal.returns
returns c = c.in_ok-reply.ensures.shortened
