use Rattle.states.proofs.LockedFacts.{locked-ends, locked-next, locked-stops}
use Rattle.states.proofs.locks.targets_for.Goals as goal

pub returns-in_default : goal.returns-in_default
returns-in_default g c =
    locked-stops c.args.lines.now c.args.pool.now c.args.unlocked c.loop-one.one-iterator.rest.items c.in-Some.one c.next.new.self.rest.items c.loop-one.made.items
    c.in-Some.ensures.steps.0 c.loop-one.invariant (rw c.in_default.is at c.in_ok-target.ensures)

pub loop-one-preserved : goal.loop-one-preserved
loop-one-preserved g c =
    rw c.in_ok-push.ensures.items
    (locked-next c.args.lines.now c.args.pool.now c.args.unlocked c.loop-one.one-iterator.rest.items c.in-Some.one c.next.new.self.rest.items c.loop-one.made.items c.in-Some-2.target
    c.in-Some.ensures.steps.0 c.loop-one.invariant (rw c.in-Some-2.is at c.in_ok-target.ensures))

pub returns : goal.returns
returns g c =
    rw c.from_vec.ensures
    (locked-ends c.args.lines.now c.args.pool.now c.args.unlocked c.loop-one.one-iterator c.loop-one.made.items c.in-None.ensures.steps.0 c.loop-one.invariant)
