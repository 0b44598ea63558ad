use Rattle.json.specs.Value.{value_view}
use Rattle.snapshot.proofs.ReleaseMeaning.{release_means}
use Rattle.snapshot.proofs.SeveralSteps.{ok-inside}
use Rattle.snapshot.proofs.pass.release.release_of.Goals as goal

pub returns-in-Ok : goal.returns-in-Ok
returns-in-Ok c = rw (← ok-inside _ _ c.in-Ok.ensures) (release_means (value_view c.args.value.now) c.in_ok-listed.listed c.in_ok-listed.ensures.meaning)
