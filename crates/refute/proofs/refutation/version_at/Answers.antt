use Rattle.std.proofs.Common.{◌∙◌}
use Rattle.resolve.proofs.Solving.{version-read}
use Rattle.refute.proofs.refutation.version_at.Goals as goal

pub returns : goal.returns
returns c =
    c.in_ok-version.ensures.cases ∙ c.version.ensures
    ∙ version-read c.args.problem.now c.args.name.now c.args.place c.releases-releases.result.now c.index-releases-place.result c.requires c.releases-releases.ensures.listed c.index-releases-place.is
