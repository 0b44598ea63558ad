use Rattle.std.proofs.Common.{refl}
use Rattle.lists.proofs.Members.{Contains-nil}
use Rattle.states.proofs.PartFacts.{not-so}
use Rattle.changes.proofs.CarriedTests.{is-changed-at, none-changed, none-more}
use Rattle.changes.proofs.change.carried_over.is_changed.Goals as goal

pub loop-change-init : goal.loop-change-init
loop-change-init c = λ d there. absurd (Contains-nil d there)

pub loop-change-preserved : goal.loop-change-preserved
loop-change-preserved c =
    none-more c.args.changes.now c.loop-change.change-index c.change-item.result c.args.name.now c.loop-change-test.true c.change-item.is
    (λ same. not-so (c.if-is_same.ensures.1 same)) c.loop-change.invariant

pub returns-then-is_same : goal.returns-then-is_same
returns-then-is_same c = (
  (λ h. is-changed-at c.args.changes.now c.loop-change.change-index c.change-item.result c.args.name.now c.loop-change-test.true c.change-item.is (c.if-is_same.ensures.0 refl)),
  (λ k. refl),
)

pub returns : goal.returns
returns c = (
  (λ h. absurd (not-so h)),
  (λ k. absurd (none-changed c.args.changes.now c.loop-change.change-index c.args.name.now c.loop-change-test.false c.loop-change.invariant k)),
)
