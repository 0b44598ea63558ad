use Rattle.std.proofs.Common.{refl}
use Rattle.lists.specs.Rising.{rises}
use Rattle.pylock.proofs.LeastFacts.{first-least}
use Rattle.pylock.proofs.laws.the_first_unknown_key_is_the_least.Goals as goal

pub returns-clause-least : goal.returns-clause-least
returns-clause-least c = λ known ms. first-least ms known

pub returns-clause-of_a_lock : goal.returns-clause-of_a_lock
unfolding rises
returns-clause-of_a_lock c = refl

pub returns-clause-of_a_package : goal.returns-clause-of_a_package
unfolding rises
returns-clause-of_a_package c = refl

pub returns-clause-of_a_file : goal.returns-clause-of_a_file
unfolding rises
returns-clause-of_a_file c = refl
