use Rattle.search.proofs.PictureLaw.{picture-best, picture-none, picture-none_back}
use Rattle.search.proofs.laws.a_picture_keeps_the_best_solution.Goals as goal

pub returns-clause-best : goal.returns-clause-best
returns-clause-best g c = λ t picture rules known order h choices. picture-best t picture rules known order h choices

pub returns-clause-none : goal.returns-clause-none
returns-clause-none g c = λ t picture rules known order h. picture-none t picture rules known order h

pub returns-clause-none_there : goal.returns-clause-none_there
returns-clause-none_there g c = λ t picture rules known order h. picture-none_back t picture rules known order h
