use Rattle.std.proofs.lemmas.Result.{err_from_is_err_and}
use Rattle.journal_format.specs.Lines.{entry_change_in}
use Rattle.journal_format.proofs.FormFacts.{ends, goes_on, is_done}
use Rattle.journal_format.proofs.steps.entry_changes_of.Goals as goal

pub returns-in_err-item : goal.returns-in_err-item
returns-in_err-item c =
    let p = err_from_is_err_and c.from_residual-in_err-item.result c.from_residual-in_err-item.ensures.1 in
    rw (p.1, p.2) (ends (entry_change_in c.args.header.now) c.loop-place.items.items c.args.values.now c.loop-place.place c.index-values-place.result c.in_err-item.field-0.0 _ c.loop-place-test.true c.index-values-place.is c.in_err-item.ensures c.loop-place.invariant)

pub loop-place-preserved : goal.loop-place-preserved
loop-place-preserved c =
    rw c.in_ok-push.ensures.items
    (goes_on (entry_change_in c.args.header.now) c.loop-place.items.items c.args.values.now c.loop-place.place c.index-values-place.result c.in_ok-item.item _ c.loop-place-test.true c.index-values-place.is c.in_ok-item.ensures c.loop-place.invariant)

pub returns : goal.returns
returns c = is_done (entry_change_in c.args.header.now) c.loop-place.items.items c.args.values.now c.loop-place.place _ c.loop-place-test.false c.loop-place.invariant
