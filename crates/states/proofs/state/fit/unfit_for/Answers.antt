use Rattle.states.proofs.FitFacts.{unfit-at}
use Rattle.states.proofs.PartFacts.{not-so}
use Rattle.states.proofs.state.fit.unfit_for.Goals as goal

pub returns-then-not-branch : goal.returns-then-not-branch
returns-then-not-branch c =
    unfit-at c.args.lines.now c.args.digest c.args.targets.now c.loop-target.target-index c.target-item.result c.loop-target-test.true c.target-item.is c.loop-target.invariant
    (λ fits. not-so (rw c.if-not-branch.true at (c.in_ok-fits.ensures.1 fits)))
