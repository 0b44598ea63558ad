use Rattle.search.proofs.SetsOfChoices.{set-refutation-of}
use Rattle.search.proofs.laws.a_refutation_is_a_set_refutation.Goals as goal

pub returns : goal.returns
returns g c = λ rules same conflicts. set-refutation-of rules same conflicts
