use Rattle.std.proofs.Common.{[]}
use Rattle.exports.specs.Tied.Reach.{wanted_by}
use Rattle.exports.proofs.AskedRequirements.{gathers-all, gathers-next, gathers-nothing}
use Rattle.exports.proofs.reach.gather_lines.Goals as goal

pub loop-line-init : goal.loop-line-init
loop-line-init c = rw c.new-asked.ensures (gathers-nothing [])

pub loop-line-preserved : goal.loop-line-preserved
loop-line-preserved c =
    gathers-next wanted_by c.args.lines.now c.loop-line.line-index c.line-item.result [] c.loop-line.asked c.gather_line.new.asked
    c.loop-line-test.true c.line-item.is c.loop-line.invariant c.in_ok-gather_line.ensures

pub returns : goal.returns
returns c = gathers-all wanted_by c.args.lines.now c.loop-line.line-index [] c.loop-line.asked c.loop-line-test.false c.loop-line.invariant
