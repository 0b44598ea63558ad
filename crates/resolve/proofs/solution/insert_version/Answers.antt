use Rattle.std.proofs.Common.{◌∙◌}
use Rattle.resolve.proofs.Solving.{put-as}
use Rattle.resolve.proofs.solution.insert_version.Goals as goal

pub returns : goal.returns
returns c =
    put-as c.args.problem.now c.args.names.now c.args.choice c.index-names-choice.result c.in_ok-clone.field-0 c.releases-releases.result.now c.index-releases-choice.result c.in_ok-version.version c.args.versions.now c.insert.new.self c.requires
    c.index-names-choice.is c.releases-releases.ensures.listed c.index-releases-choice.is c.in_ok-clone.ensures.cases (c.in_ok-version.ensures.cases ∙ c.version.ensures) c.in_ok-insert.ensures.updates
