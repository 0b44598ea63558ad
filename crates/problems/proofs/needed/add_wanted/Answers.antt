use Rattle.problems.proofs.Growing.{Grows-lent}
use Rattle.problems.proofs.needed.add_wanted.Goals as goal

pub loop-requirement-preserved : goal.loop-requirement-preserved
loop-requirement-preserved c =
    Grows-lent (λ w. w.now) c.args.nodes.now c.loop-requirement.nodes c.add_nodes.new.nodes c.args.wanted.now c.loop-requirement.requirement-index c.requirement-item.result c.loop-requirement-test.true c.requirement-item.is
    c.loop-requirement.invariant c.in_ok-add_nodes.ensures
