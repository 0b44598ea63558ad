use Rattle.std.proofs.Common.{◌-◌, length}
use Rattle.problems.specs.Problem.{requirements}
use Rattle.states.specs.Tied.LockForLines.{names_met}
use Rattle.states.proofs.ReachFacts.{IsFollowed}
use Rattle.states.proofs.state.reach.reached_names.Given as goal

abbrev pub invariant-loop-followed : goal.invariant-loop-followed
invariant-loop-followed l = IsFollowed (requirements l.environment l.lines) l.entries l.names l.followed

-- the names that may still be followed
abbrev pub decreases-loop-followed : goal.decreases-loop-followed
decreases-loop-followed l = length (names_met (requirements l.environment l.lines) l.entries) - l.followed
