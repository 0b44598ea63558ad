use Rattle.search.proofs.TakenFacts.{IsListed}
use Rattle.search.specs.Tied.Search.{taken_at}
use Rattle.search.proofs.taken_places.choices_taken.Given as goal

abbrev pub invariant-loop-name : goal.invariant-loop-name
invariant-loop-name l = IsListed (taken_at l.taken) l.name l.choices.items
