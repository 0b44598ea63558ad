use Rattle.snapshot.proofs.pass.members.copy_at.Goals as goal

pub returns-in-Ok : goal.returns-in-Ok
returns-in-Ok c = rw c.in-Ok.ensures c.in_ok-text_at.ensures
