use Rattle.search.proofs.Nodes.{grown-required}
use Rattle.search.proofs.Ranges.{at-member}
use Rattle.search.specs.Table.{rules_of}
use Rattle.search.proofs.needed_nodes.add_required.Goals as goal

pub add_nodes-requires-clause-known : goal.add_nodes-requires-clause-known
add_nodes-requires-clause-known c = c.requires.known _ (at-member c.args.required.now c.loop-requirement.requirement-index 0 c.loop-requirement-test.true)

pub loop-requirement-preserved : goal.loop-requirement-preserved
loop-requirement-preserved c = grown-required (rules_of c.args.table.now) c.args.nodes.now c.loop-requirement.nodes c.add_nodes.new.nodes c.args.required.now c.loop-requirement.requirement-index c.loop-requirement-test.true c.loop-requirement.invariant c.in_ok-add_nodes.ensures
