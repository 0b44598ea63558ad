use Rattle.answers.proofs.FirstRefuted.{solvable-more}
use Rattle.answers.proofs.shown.first_explained.Goals as goal

pub loop-place-preserved : goal.loop-place-preserved
loop-place-preserved g c = solvable-more c.args.problems.now c.loop-place.place c.index-problems-place.result c.loop-place-test.true c.loop-place.invariant (rw c.in_default.is at c.in_ok-shown.ensures)
