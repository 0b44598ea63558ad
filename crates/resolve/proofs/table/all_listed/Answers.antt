use Rattle.resolve.proofs.Standing.{AllZip-more_same}
use Rattle.resolve.specs.Tied.Pictured.{IsListed}
use Rattle.resolve.proofs.table.all_listed.Goals as goal

pub loop-name-preserved : goal.loop-name-preserved
loop-name-preserved c =
    AllZip-more_same (IsListed c.args.problem.now) c.loop-name.rows.items c.push.new.self.items c.args.names.now c.loop-name.name-index c.in_ok-listed.field-0 c.name-item.result c.loop-name-test.true c.name-item.is c.in_ok-push.ensures.items c.loop-name.invariant c.in_ok-listed.ensures
