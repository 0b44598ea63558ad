use Rattle.search.proofs.FirstWalks.{walk-best}
use Rattle.search.proofs.laws.a_first_walk_finds_the_best_solution.Goals as goal

pub returns : goal.returns
returns g c = λ rules law ps h complete. walk-best rules law ps h complete
