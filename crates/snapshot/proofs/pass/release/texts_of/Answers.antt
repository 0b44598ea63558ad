use Rattle.std.proofs.Common.{subst, sym}
use Rattle.json.specs.Value.{value_view}
use Rattle.snapshot.specs.Shape.{text_of}
use Rattle.snapshot.specs.Tied.Meaning.{Means}
use Rattle.snapshot.proofs.MeaningFacts.{more_means}
use Rattle.snapshot.proofs.ReleaseMeaning.{text_means}
use Rattle.snapshot.proofs.pass.release.texts_of.Goals as goal

pub loop-place-preserved : goal.loop-place-preserved
loop-place-preserved c =
    let means = text_means (value_view c.index-values-place.result) c.in_ok-as_str.field-0.now (sym c.in_ok-as_str.ensures) in
    let one = subst (λ v. Means text_of (value_view v) c.in_ok-as_str.field-0.now) c.index-values-place.is means in
    rw (c.in-Ok-push.ensures.items, c.in-Ok.ensures)
    (more_means text_of c.args.values.now c.loop-place.place c.index-values-place.result c.loop-place.texts.items c.in_ok-as_str.field-0.now c.loop-place-test.true c.loop-place.invariant one)
