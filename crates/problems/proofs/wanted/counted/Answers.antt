use Rattle.std.specs.Option.{option_copied}
use Rattle.problems.specs.Rules.{counts}
use Rattle.problems.proofs.Growing.{filter-next}
use Rattle.problems.proofs.wanted.counted.Goals as goal

pub loop-dependency-preserved : goal.loop-dependency-preserved
loop-dependency-preserved c =
    filter-next (counts c.args.environment.now (option_copied c.args.extra)) c.loop-dependency.wanted c.push_counted.new.wanted c.args.dependencies.now c.loop-dependency.dependency-index c.dependency-item.result
    c.loop-dependency-test.true c.dependency-item.is c.loop-dependency.invariant c.in_ok-push_counted.ensures
