use Rattle.std.proofs.Common.{◌+◌, length, Some, None}
use Rattle.problems.specs.Rules.{counts}
use Rattle.problems.specs.Tied.ByExtra.{names_extra}
use Rattle.problems.proofs.Merging.{IsLeft}
use Rattle.problems.proofs.by_extra.ByExtra.counted.Given as goal

abbrev pub invariant-places : goal.invariant-places
invariant-places l = IsLeft (counts l.self.environment (Some l.extra)) (counts l.self.environment None) (names_extra l.extra) l.self.dependencies l.wanted l.bare l.naming

-- the places that are left
abbrev pub decreases-places : goal.decreases-places
decreases-places l = length l.bare + length l.naming
