use Rattle.std.proofs.lemmas.Result.{err_from_is_err_and}
use Rattle.journal_format.proofs.FormFacts.{ends, goes_on, is_done}
use Rattle.journal_format.proofs.forms.each.Goals as goal

pub returns-in_err-item : goal.returns-in_err-item
returns-in_err-item g c =
    let p = err_from_is_err_and c.from_residual-in_err-item.result c.from_residual-in_err-item.ensures.1 in
    rw (p.1, p.2) (ends g.T.Read.reading c.loop-place.items.items c.args.values.now c.loop-place.place c.index-values-place.result c.in_err-item.field-0.0 _ c.loop-place-test.true c.index-values-place.is c.in_err-item.ensures c.loop-place.invariant)

pub loop-place-preserved : goal.loop-place-preserved
loop-place-preserved g c =
    rw c.in_ok-push.ensures.items
    (goes_on g.T.Read.reading c.loop-place.items.items c.args.values.now c.loop-place.place c.index-values-place.result c.in_ok-item.item _ c.loop-place-test.true c.index-values-place.is c.in_ok-item.ensures c.loop-place.invariant)

pub returns : goal.returns
returns g c = is_done g.T.Read.reading c.loop-place.items.items c.args.values.now c.loop-place.place _ c.loop-place-test.false c.loop-place.invariant
