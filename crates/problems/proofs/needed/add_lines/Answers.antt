use Rattle.std.proofs.Common.{arith}
use Rattle.std.proofs.lemmas.Grind.{common_steps}
use Rattle.problems.specs.Rules.{nodes_of}
use Rattle.problems.proofs.Growing.{Grows-more}
use Rattle.problems.proofs.needed.add_lines.Goals as goal

pub loop-wanted-preserved : goal.loop-wanted-preserved
loop-wanted-preserved c =
    Grows-more nodes_of c.args.nodes.now c.loop-wanted.nodes c.add_nodes.new.nodes c.args.lines.now c.loop-wanted.wanted-index c.wanted-item.result c.loop-wanted-test.true c.wanted-item.is
    c.loop-wanted.invariant c.in_ok-add_nodes.ensures

pub returns : goal.returns
returns c = grind (arith, common_steps)
