use Rattle.std.proofs.Common.{◌≡◌, map, take}
use Rattle.journal.proofs.journal.names_of.Given as goal

abbrev pub invariant-loop-target : goal.invariant-loop-target
invariant-loop-target l = l.names.items ≡ map (λ t. t.name) (take l.target-index l.targets)
