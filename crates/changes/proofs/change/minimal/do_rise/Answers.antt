use Rattle.std.proofs.Common.{sym, ◌∙◌, refl, arith}
use Rattle.changes.proofs.EndsFacts.{IsLeft-at, IsLeft-end, IsLeft-next, IsLeft-start, IsLeft-stops}
use Rattle.states.proofs.PartFacts.{not-so}
use Rattle.changes.proofs.change.minimal.do_rise.Goals as goal

pub loop-place-init : goal.loop-place-init
loop-place-init c = record {
  begun = omega arith;
  left = rw c.ends_of-ends.ensures.ends (IsLeft-start c.args.splices.now c.in-Some.first.now c.in-Some.ensures.value c.ends_of-ends.ensures.fits);
}

pub loop-place-preserved : goal.loop-place-preserved
loop-place-preserved c =
    let left = IsLeft-at c.args.splices.now c.loop-place.place c.index-splices-place.result c.loop-place.ends c.loop-place-test.true c.index-splices-place.is c.loop-place.invariant.left in
    record {
      begun = omega arith;
      left = rw c.ends_of-ends-in-Some-place_behind.ensures.ends (IsLeft-next c.args.splices.now c.index-splices-place.result _ c.loop-place.ends _ c.ends_of-ends-in-Some-place_behind.ensures.fits (sym c.place_behind.ensures ∙ c.in-Some-place_behind.is) left);
    }

pub returns-in-None : goal.returns-in-None
returns-in-None c =
    let left = IsLeft-at c.args.splices.now c.loop-place.place c.index-splices-place.result c.loop-place.ends c.loop-place-test.true c.index-splices-place.is c.loop-place.invariant.left in
    (λ h. absurd (not-so h), λ rise. absurd (IsLeft-stops c.args.splices.now c.index-splices-place.result _ c.loop-place.ends (sym c.place_behind.ensures ∙ c.in-None.is) left rise))

pub returns : goal.returns
returns c = (λ h. IsLeft-end c.args.splices.now c.loop-place.place c.loop-place.ends c.loop-place-test.false c.loop-place.invariant.left, λ rise. refl)
