use Rattle.std.proofs.lemmas.Result.{err_from_is_err_and}
use Rattle.journal.proofs.PresentFacts.{all_read, nothing_read, one_more, refused}
use Rattle.journal.proofs.history_reader.locks.targets_of.Goals as goal

pub loop-place-init : goal.loop-place-init
loop-place-init c = rw c.in_ok-targets.ensures.items (nothing_read c.args.locks.now.entries c.args.given.now)

pub returns-in_err-target : goal.returns-in_err-target
returns-in_err-target c =
    let p = err_from_is_err_and c.from_residual-in_err-target.result c.from_residual-in_err-target.ensures.1 in
    rw (p.1, p.2) (refused c.args.locks.now.entries c.args.given.now c.loop-place.place c.loop-place.targets.items c.loop-place.invariant c.index-given-place.result c.in_err-target.field-0.0 c.loop-place-test.true c.index-given-place.is c.in_err-target.ensures)

pub loop-place-preserved : goal.loop-place-preserved
loop-place-preserved c =
    rw c.in_ok-push.ensures.items
    (one_more c.args.locks.now.entries c.args.given.now c.loop-place.place c.loop-place.targets.items c.loop-place.invariant c.index-given-place.result c.in_ok-target.target c.loop-place-test.true c.index-given-place.is c.in_ok-target.ensures)

pub returns : goal.returns
returns c = rw c.from_vec.ensures (all_read c.args.locks.now.entries c.args.given.now c.loop-place.place c.loop-place.targets.items c.loop-place.invariant c.loop-place-test.false)
