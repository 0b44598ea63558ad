use Rattle.problems.proofs.KeepingAll.{alone-solution, solution-alone}
use Rattle.problems.proofs.laws.solutions_without_others_keep_all.Goals as goal

pub returns : goal.returns
returns c = λ given s. (alone-solution given s, λ k. solution-alone given s k.0 k.1)
