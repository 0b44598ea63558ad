use Rattle.problems.proofs.KeepingAll.{best-alone}
use Rattle.problems.proofs.laws.the_best_solution_that_keeps_all_stays_the_best.Goals as goal

pub returns : goal.returns
returns c = best-alone
