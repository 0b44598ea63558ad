use Rattle.search.proofs.GuidedWalks.{guided-best}
use Rattle.search.proofs.laws.a_guided_walk_finds_the_best_solution.Goals as goal

pub returns : goal.returns
returns g c = λ rules law ps h complete. guided-best rules law ps h complete
