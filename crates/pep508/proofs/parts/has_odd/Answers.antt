use Rattle.std.proofs.Common.{◌≡◌, ◌+◌, ◌∙◌, sym, refl, get_or, drop, true, false}
use Rattle.std.proofs.lemmas.List.{at_drop_more, at_drop_all, take_rest}
use Rattle.pep508.specs.Parts.{has_odd, is_odd}
use Rattle.pep508.proofs.parts.has_odd.Goals as goal

pub returns-then-is_odd : goal.returns-then-is_odd
unfolding has_odd
returns-then-is_odd c =
    let odd : is_odd (get_or c.args.bytes.now c.loop-place.place 0) (drop (c.loop-place.place + 1) c.args.bytes.now) ≡ true = rw take_rest at (sym c.is_odd.ensures ∙ c.if-is_odd.true) in
    let more = at_drop_more has_odd c.args.bytes.now c.loop-place.place 0 c.loop-place-test.true in
    sym (c.loop-place.invariant ∙ more ∙ rw odd refl)

pub loop-place-preserved : goal.loop-place-preserved
unfolding has_odd
loop-place-preserved c =
    let odd : is_odd (get_or c.args.bytes.now c.loop-place.place 0) (drop (c.loop-place.place + 1) c.args.bytes.now) ≡ false = rw take_rest at (sym c.is_odd.ensures ∙ c.if-is_odd.false) in
    let more = at_drop_more has_odd c.args.bytes.now c.loop-place.place 0 c.loop-place-test.true in
    c.loop-place.invariant ∙ more ∙ rw odd refl

pub returns : goal.returns
unfolding has_odd
returns c = sym (c.loop-place.invariant ∙ at_drop_all has_odd c.args.bytes.now c.loop-place.place c.loop-place-test.false)
