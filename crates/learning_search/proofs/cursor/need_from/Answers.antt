use Rattle.search.proofs.Ranges.{at-member}
use Rattle.learning_search.proofs.cursor.need_from.Goals as goal

pub extra_from-requires : goal.extra_from-requires
extra_from-requires c = c.requires _ (at-member c.args.row.now c.loop-demand.demand _ c.loop-demand-test.true)
