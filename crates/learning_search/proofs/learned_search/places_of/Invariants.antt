use Rattle.std.proofs.Common.{take, map, ◌≡◌}
use Rattle.learning_search.specs.Tied.Learning.{version_of}
use Rattle.learning_search.proofs.learned_search.places_of.Given as goal

abbrev pub invariant-loop-first : goal.invariant-loop-first
invariant-loop-first l = l.places.items ≡ map version_of (take l.first-index l.taken)
