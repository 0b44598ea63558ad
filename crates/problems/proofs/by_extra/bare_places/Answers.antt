use Rattle.std.proofs.Common.{◌∙◌, ◌++◌, ◌∷◌, [], None, ap, sym}
use Rattle.problems.specs.Rules.{counts}
use Rattle.problems.proofs.Places.{places-kept, places-skipped}
use Rattle.problems.proofs.by_extra.bare_places.Goals as goal
use Rattle.problems.proofs.by_extra.bare_places.Goals.{then-counts+in_ok-push, else-counts}

pub loop-place-preserved : goal.loop-place-preserved
loop-place-preserved c =
    let test = counts c.args.environment.now None in
    elim c.if-counts.branch [
      | then-counts+in_ok-push w ↦
          rw w.bare-is
          (w.in_ok-push.ensures.items ∙ ap (λ ps. ps ++ c.loop-place.place ∷ []) c.loop-place.invariant
          ∙ places-kept test c.args.dependencies.now c.loop-place.place c.index-dependencies-place.result c.loop-place-test.true c.index-dependencies-place.is (sym c.counts.ensures ∙ w.if-counts.true))
      | else-counts w ↦
          rw w.bare-is
          (c.loop-place.invariant
          ∙ places-skipped test c.args.dependencies.now c.loop-place.place c.index-dependencies-place.result c.loop-place-test.true c.index-dependencies-place.is (sym c.counts.ensures ∙ w.if-counts.false))
    ]
