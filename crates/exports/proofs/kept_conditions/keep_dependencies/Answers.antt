use Rattle.std.proofs.Common.{◌≡◌, true}
use Rattle.exports.specs.Tied.Answers.{is_wanted_alike}
use Rattle.exports.proofs.KeptConditions.{kept-more, kept-start, kept-whole}
use Rattle.exports.proofs.kept_conditions.keep_dependencies.Goals as goal

pub loop-dependency-init : goal.loop-dependency-init
loop-dependency-init c = kept-start (λ other dependency. is_wanted_alike c.args.environment.now other dependency ≡ true) c.args.environment.now c.args.conditions.now c.args.dependencies.now

pub loop-dependency-preserved : goal.loop-dependency-preserved
loop-dependency-preserved c =
    kept-more (λ other dependency. is_wanted_alike c.args.environment.now other dependency ≡ true) c.args.environment.now c.args.conditions.now c.loop-dependency.conditions c.keep_marker.new.conditions c.args.dependencies.now c.loop-dependency.dependency-index c.dependency-item.result c.loop-dependency-test.true c.dependency-item.is
    c.loop-dependency.invariant (rw c.marker.ensures at c.in_ok-keep_marker.ensures)

pub returns : goal.returns
returns c = kept-whole (λ other dependency. is_wanted_alike c.args.environment.now other dependency ≡ true) c.args.environment.now c.args.conditions.now c.loop-dependency.conditions c.args.dependencies.now c.loop-dependency.dependency-index c.loop-dependency-test.false c.loop-dependency.invariant
