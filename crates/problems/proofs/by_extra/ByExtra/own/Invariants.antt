use Rattle.std.proofs.Common.{length}
use Rattle.problems.specs.Tied.ByExtra.{names_extra}
use Rattle.problems.proofs.Merging.{IsLeft}
use Rattle.problems.proofs.NamedPlaces.{names_and_counts}
use Rattle.problems.proofs.by_extra.ByExtra.own.Given as goal

abbrev pub invariant-places : goal.invariant-places
invariant-places l = IsLeft (names_and_counts l.self.environment l.extra) (names_extra l.extra) (names_extra l.extra) l.self.dependencies l.wanted l.naming l.naming

-- the places that are left
abbrev pub decreases-places : goal.decreases-places
decreases-places l = length l.naming
