use Rattle.std.proofs.lemmas.Result.{err_from_is_err_and}
use Rattle.journal.proofs.StateFacts.{stopped_on, turned_on, walked_on}
use Rattle.journal.proofs.history_reader.walk.walk_on.Goals as goal

pub returns-in_err-state-2 : goal.returns-in_err-state-2
returns-in_err-state-2 c =
    let p = err_from_is_err_and c.from_residual-in_err-state-2.result c.from_residual-in_err-state-2.ensures.1 in
    rw (p.1, p.2)
    (stopped_on c.args.number c.args.changes.now c.args.present.now c.loop-place.place c.loop-place.state c.loop-place.invariant c.index-changes-place.result c.loop-place-test.true c.index-changes-place.is c.in_err-state-2.field-0.0 c.in_err-state-2.ensures)

pub loop-place-preserved : goal.loop-place-preserved
loop-place-preserved c =
    turned_on c.args.number c.args.changes.now c.args.present.now c.loop-place.place c.loop-place.state c.loop-place.invariant c.index-changes-place.result c.loop-place-test.true c.index-changes-place.is c.in_ok-state-2.state c.in_ok-state-2.ensures

pub returns : goal.returns
returns c = walked_on c.args.number c.args.changes.now c.args.present.now c.loop-place.place c.loop-place.state c.loop-place.invariant c.loop-place-test.false
