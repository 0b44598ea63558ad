use Rattle.std.proofs.Common.{refl, sym, subst}
use Rattle.pylock.specs.Locks.{IsLock}
use Rattle.states.specs.declared.target.Target.{Target}
use Rattle.states.proofs.PartFacts.{AllByRecursion-at}
use Rattle.changes.specs.Tied.CarriedOver.{AreAllMet, AreTouchedMet}
use Rattle.changes.proofs.CarriedTests.{all-more}
use Rattle.changes.proofs.change.carried_over.all_touched_met.Goals as goal

pub returns-then-not-are_touched_met-clause-only : goal.returns-then-not-are_touched_met-clause-only
returns-then-not-are_touched_met-clause-only c = λ all.
    let both = λ (t : Target). AreAllMet c.args.put.now t × AreAllMet c.args.lines.now t in
    let here = subst both (sym c.target-item.is) (AllByRecursion-at both c.args.targets.now c.loop-target.target-index c.target-item.result c.loop-target-test.true all) in
    c.if-not-are_touched_met.ensures.only here

pub loop-target-preserved : goal.loop-target-preserved
loop-target-preserved c =
    all-more (λ (t : Target). AreTouchedMet c.args.changes.now c.args.put.now c.args.lines.now t × IsLock t.lock) c.args.targets.now c.loop-target.target-index c.target-item.result
    c.loop-target-test.true c.target-item.is c.loop-target.invariant (c.if-not-are_touched_met.ensures.met refl)
