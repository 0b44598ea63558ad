use Rattle.std.proofs.Common.{◌∙◌, sym}
use Rattle.snapshot.proofs.UsableReleasesAreLawful.{release-lawful}
use Rattle.snapshot.proofs.SeveralSteps.{ok-inside}
use Rattle.snapshot.proofs.usable.outcome_of.Goals as goal

pub new-release-requires : goal.new-release-requires
new-release-requires c =
    let python = ok-inside _ _ c.in_ok-python.ensures ∙ c.in-Ok-2.is in
    release-lawful c.args.listed.requires_python c.args.listed.files _ c.requires python c.in_ok-files.ensures.sdist c.in_ok-files.ensures.wheels (sym c.fault_of_files.ensures ∙ c.in_default.is)
