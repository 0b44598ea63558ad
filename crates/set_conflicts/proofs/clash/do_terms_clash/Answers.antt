use Rattle.std.proofs.Common.{◌∙◌}
use Rattle.search.specs.SetConflicts.{PairClashes}
use Rattle.search.specs.Table.{rules_of, places_eq}
use Rattle.set_conflicts.proofs.Covered.{pairs-same}
use Rattle.set_conflicts.proofs.clash.do_terms_clash.Goals as goal

pub returns : goal.returns
returns c = λ t. pairs-same (PairClashes (rules_of c.args.table.now) places_eq) c.as_slice.result.now c.args.one.now.versions c.as_slice-2.result.now c.args.other.now.versions c.node-node.result c.args.one.now.node c.node-beside.result c.args.other.now.node
    (c.as_slice.ensures ∙ c.in_ok-places.ensures) (c.as_slice-2.ensures ∙ c.in_ok-besides.ensures) c.node-node.ensures c.node-beside.ensures (c.does_each_clash.ensures t)
