use Rattle.std.proofs.Common.{sym, subst}
use Rattle.states.proofs.PartFacts.{AllByRecursion-at, not-so}
use Rattle.changes.specs.Tied.CarriedOver.{IsReachedFrom}
use Rattle.changes.proofs.change.carried_over.all_reached.Goals as goal

pub returns-then-not-branch : goal.returns-then-not-branch
returns-then-not-branch c = (
  (λ h. absurd (not-so h)),
  (λ all.
      let here = subst (IsReachedFrom c.args.lines.now) (sym c.target-item.is)
      (AllByRecursion-at (IsReachedFrom c.args.lines.now) c.args.targets.now c.loop-target.target-index c.target-item.result c.loop-target-test.true all) in
      rw c.if-not-branch.true at (c.in_ok-is_reached.ensures.1 here)),
)
