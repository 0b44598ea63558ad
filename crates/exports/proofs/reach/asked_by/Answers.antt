use Rattle.std.proofs.Common.{◌≡◌, ◌<◌, get_or, length, arith, sym}
use Rattle.std.proofs.lemmas.Bool.{ltb-true}
use Rattle.exports.proofs.AskedRequirements.{asked-first, asked-next, asked-whole}
use Rattle.exports.proofs.reach.asked_by.Goals as goal

pub loop-place-init : goal.loop-place-init
loop-place-init c = asked-first c.args.lines.now c.args.snapshot.now c.in_ok-asked.asked c.in_ok-asked.ensures

pub loop-place-preserved : goal.loop-place-preserved
loop-place-preserved c =
    let within : c.loop-place.place < length c.requirements.result.now = ltb-true c.loop-place.place (length c.requirements.result.now) (sym c.in-Some.ensures.lookup.0) in
    let is : c.in-Some.above.now ≡ get_or c.requirements.result.now c.loop-place.place c.in-Some.above.now = c.in-Some.ensures.lookup.4 (omega arith) c.in-Some.above.now in
    let same : c.in_ok-above.above ≡ c.in-Some.above.now = c.in_ok-above.ensures.cases in
    asked-next c.args.lines.now c.args.snapshot.now c.loop-place.asked c.gather_below.new.asked c.loop-place.place c.in-Some.above.now (rw c.requirements.ensures at within) (rw c.requirements.ensures at is) c.loop-place.invariant
    (rw same at c.in_ok-gather_below.ensures)

pub returns-in_default : goal.returns-in_default
returns-in_default c =
    asked-whole c.args.lines.now c.args.snapshot.now c.loop-place.asked c.loop-place.place (rw c.requirements.ensures at c.in_default.ensures.lookup.3) c.loop-place.invariant
