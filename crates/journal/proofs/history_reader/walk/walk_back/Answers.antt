use Rattle.std.proofs.Common.{refl}
use Rattle.std.proofs.lemmas.Result.{err_from_is_err_and}
use Rattle.journal.proofs.StatesBeforeFacts.{stopped_back, turned_back, walked_back}
use Rattle.journal.proofs.history_reader.walk.walk_back.Goals as goal

pub returns-in_err-state-2 : goal.returns-in_err-state-2
returns-in_err-state-2 c =
    let p = err_from_is_err_and c.from_residual-in_err-state-2.result c.from_residual-in_err-state-2.ensures.1 in
    rw (p.1, p.2)
    (stopped_back c.args.changes.now c.args.present.now c.loop-behind.behind _ c.loop-behind.state c.loop-behind.invariant c.index-changes-place.result c.loop-behind-test.true refl c.index-changes-place.is c.in_err-state-2.field-0.0 c.in_err-state-2.ensures)

pub loop-behind-preserved : goal.loop-behind-preserved
loop-behind-preserved c =
    turned_back c.args.changes.now c.args.present.now c.loop-behind.behind _ c.loop-behind.state c.loop-behind.invariant c.index-changes-place.result c.loop-behind-test.true refl c.index-changes-place.is c.in_ok-state-2.state c.in_ok-state-2.ensures

pub returns : goal.returns
returns c = walked_back c.args.changes.now c.args.present.now c.loop-behind.behind c.loop-behind.state c.loop-behind.invariant c.loop-behind-test.false
