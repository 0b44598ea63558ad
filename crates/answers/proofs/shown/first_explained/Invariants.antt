use Rattle.answers.specs.Answers.{AreSolvableBefore}
use Rattle.answers.proofs.shown.first_explained.Given as goal

abbrev pub invariant-loop-place : goal.invariant-loop-place
invariant-loop-place g l = AreSolvableBefore l.problems l.place
