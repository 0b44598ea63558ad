use Rattle.json.specs.Value.{value_view}
use Rattle.snapshot.specs.Tied.Gathering.{kept_view}
use Rattle.snapshot.proofs.ReleaseMeaning.{package_means}
use Rattle.snapshot.proofs.pass.package.package_of.Goals as goal

pub returns : goal.returns
returns c =
    rw c.in-Ok-read_releases.ensures
    (package_means (value_view c.args.value.now) c.in_ok-text_at.field-0.now c.in-Ok.name c.in_ok-items_at.field-0.now (kept_view c.in_ok-gathering.gathering)
    c.in_ok-text_at.ensures c.in-Ok.ensures c.in_ok-items_at.ensures c.in_ok-gathering.ensures)
