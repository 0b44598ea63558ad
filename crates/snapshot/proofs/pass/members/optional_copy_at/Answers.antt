use Rattle.snapshot.proofs.pass.members.optional_copy_at.Goals as goal

pub returns-in-Ok : goal.returns-in-Ok
returns-in-Ok c = rw c.in-Ok.ensures c.in_ok-optional_text_at.ensures
