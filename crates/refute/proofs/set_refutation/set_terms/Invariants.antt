use Rattle.std.proofs.Common.{◌≡◌, take}
use Rattle.search.specs.SetsOfChoices.{terms_of}
use Rattle.refute.proofs.set_refutation.set_terms.Given as goal

abbrev pub invariant-loop-choice : goal.invariant-loop-choice
invariant-loop-choice l = l.terms.items ≡ terms_of (take l.choice-index l.conflict)
