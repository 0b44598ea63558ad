use Rattle.json.specs.Value.{value_view}
use Rattle.snapshot.proofs.ReleaseMeaning.{listed_means}
use Rattle.snapshot.proofs.pass.release.listed_of.Goals as goal

pub returns-clause-meaning : goal.returns-clause-meaning
returns-clause-meaning c =
    listed_means (value_view c.args.value.now) c.in_ok-version.version c.in_ok-requires_python.requires_python c.in_ok-requires_dist.requires_dist c.in_ok-yanked.yanked c.in_ok-items_at.field-0.now c.in_ok-files.files
    c.in_ok-version.ensures c.in_ok-requires_python.ensures c.in_ok-requires_dist.ensures c.in_ok-yanked.ensures c.in_ok-items_at.ensures c.in_ok-files.ensures.meaning
