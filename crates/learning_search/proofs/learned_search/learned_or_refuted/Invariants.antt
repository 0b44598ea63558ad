use Rattle.learning_search.proofs.WhatIsLeftToLearn.{progress_work}
use Rattle.learning_search.specs.Tied.Learning.{StandsAt}
use Rattle.learning_search.proofs.learned_search.learned_or_refuted.Given as goal

abbrev pub invariant-search : goal.invariant-search
invariant-search g l = StandsAt l.table l.partial l.conflicts.list.items l.progress

abbrev pub decreases-search : goal.decreases-search
decreases-search g l = progress_work l.table l.partial.assignments.items l.progress
