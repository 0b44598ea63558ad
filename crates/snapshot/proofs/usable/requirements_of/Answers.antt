use Rattle.std.proofs.Common.{ap, ◌∙◌, Ok}
use Rattle.snapshot.proofs.SeveralSteps.{ok-inside}
use Rattle.snapshot.proofs.UsableFacts.{text_read, text_refused, texts_read}
use Rattle.snapshot.proofs.usable.requirements_of.Goals as goal

pub returns-in-Err : goal.returns-in-Err
returns-in-Err c =
    let text = c.as_str.ensures ∙ c.index-texts-place.is in
    let refused = ok-inside _ _ c.in_ok-requirement.ensures ∙ c.in-Err.is in
    ap Ok (text_refused c.args.texts.now c.loop-place.place c.index-texts-place.result c.loop-place.requirements.items c.in-Err.cause _ c.loop-place-test.true (rw (← text) refused) c.loop-place.invariant)

pub loop-place-preserved : goal.loop-place-preserved
loop-place-preserved c =
    let text = c.as_str.ensures ∙ c.index-texts-place.is in
    let read = ok-inside _ _ c.in_ok-requirement.ensures ∙ c.in-Ok.is in
    rw c.in_ok-push-in-Ok.ensures.items
    (text_read c.args.texts.now c.loop-place.place c.index-texts-place.result c.loop-place.requirements.items c.in-Ok.requirement _ c.loop-place-test.true (rw (← text) read) c.loop-place.invariant)

pub returns : goal.returns
returns c = rw c.from_vec.ensures (ap Ok (texts_read c.args.texts.now c.loop-place.place c.loop-place.requirements.items _ c.loop-place-test.false c.loop-place.invariant))
