use Rattle.serde_json.specs.View.{view}
use Rattle.snapshot.proofs.UsableReleasesAreLawful.{listed-lawful}
use Rattle.snapshot.proofs.release.reading.release_of.Goals as goal

pub outcome_of-requires : goal.outcome_of-requires
outcome_of-requires c = listed-lawful (view c.args.value) c.in_ok-listed.listed c.in_ok-listed.ensures
