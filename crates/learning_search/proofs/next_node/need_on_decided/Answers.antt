use Rattle.std.proofs.Common.{map}
use Rattle.search.proofs.Ranges.{at-member}
use Rattle.learning_search.proofs.Needs.{decided-more, decided-end}
use Rattle.learning_search.specs.Tied.Gathering.{choice_at}
use Rattle.learning_search.specs.Tied.Learned.{first_at}
use Rattle.search.specs.Table.{rules_of}
use Rattle.learning_search.proofs.next_node.need_on_decided.Goals as goal

pub need_of-requires : goal.need_of-requires
need_of-requires c = c.requires _ (at-member c.args.listed.now c.loop-demand.demand-index _ c.loop-demand-test.true)

pub loop-demand-preserved : goal.loop-demand-preserved
loop-demand-preserved c = decided-more (rules_of c.args.table.now) (first_at c.args.taken.now) (map choice_at c.args.choices.now.entries) c.args.listed.now c.loop-demand.demand-index _ c.loop-demand-test.true c.loop-demand.invariant c.in_default.ensures

pub returns : goal.returns
returns c = decided-end (rules_of c.args.table.now) (first_at c.args.taken.now) (map choice_at c.args.choices.now.entries) c.args.listed.now c.loop-demand.demand-index c.loop-demand-test.false c.loop-demand.invariant
