use Rattle.problems.specs.Rules.{with_extra}
use Rattle.problems.proofs.Growing.{Grows-more_map, Grows-one}
use Rattle.problems.proofs.needed.add_extras.Goals as goal

pub loop-extra-preserved : goal.loop-extra-preserved
loop-extra-preserved c =
    Grows-more_map (with_extra c.args.name.now) c.args.nodes.now c.loop-extra.nodes c.number_of.new.self c.args.extras.now c.loop-extra.extra-index c.extra-item.result c.loop-extra-test.true c.extra-item.is
    c.loop-extra.invariant (Grows-one c.loop-extra.nodes c.number_of.new.self _ (with_extra c.args.name.now c.extra-item.result) c.in_ok-number_of.ensures.only c.in_ok-number_of.ensures.number)
