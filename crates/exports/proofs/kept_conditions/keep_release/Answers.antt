use Rattle.std.proofs.Common.{◌≡◌, true}
use Rattle.std.specs.List.{AllByRecursion}
use Rattle.problems.specs.Admission.{meets_python}
use Rattle.exports.specs.Tied.Answers.{is_release_alike, is_wanted_alike}
use Rattle.exports.proofs.EachAnswer.{release-settled}
use Rattle.exports.proofs.KeptConditions.{kept-both}
use Rattle.exports.proofs.kept_conditions.keep_release.Goals as goal

pub returns : goal.returns
returns c =
    kept-both c.args.environment.now c.args.conditions.now c.keep_python.new.conditions c.keep_dependencies.new.conditions
    (λ other. meets_python c.args.environment.now c.args.release.now.requires_python ≡ meets_python other c.args.release.now.requires_python)
    (λ other. AllByRecursion (λ wanted. is_wanted_alike c.args.environment.now other wanted ≡ true) c.args.release.now.dependencies) (λ other. is_release_alike c.args.environment.now other c.args.release.now ≡ true)
    (rw c.requires_python.ensures at c.in_ok-keep_python.ensures) (rw c.dependencies.ensures at c.in_ok-keep_dependencies.ensures)
    (λ other. release-settled c.args.environment.now other c.args.release.now)
