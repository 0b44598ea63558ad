use Rattle.learning_search.proofs.DemandLists.{listed-fit-end}
use Rattle.search.proofs.Ranges.{at-member}
use Rattle.search.specs.Table.{rules_of}
use Rattle.learning_search.proofs.refusal.demand_clash.Goals as goal

pub name_required-requires : goal.name_required-requires
name_required-requires c = c.requires.known _ (at-member c.args.listed.now c.loop-demand.demand-index _ c.loop-demand-test.true)

pub does_admit-requires : goal.does_admit-requires
does_admit-requires c = c.requires.known _ (at-member c.args.listed.now c.loop-demand.demand-index _ c.loop-demand-test.true)

pub returns : goal.returns
returns c = listed-fit-end (rules_of c.args.table.now) c.args.listed.now c.loop-demand.demand-index c.args.candidate c.loop-demand-test.false c.loop-demand.invariant
