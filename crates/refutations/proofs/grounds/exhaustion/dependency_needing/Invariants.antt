use Rattle.std.proofs.Common.{◌≡◌, ◌&&◌, drop, None}
use Rattle.std.specs.List.{list_any}
use Rattle.std.specs.Option.{option_copied}
use Rattle.refutations.specs.Tied.Cases.{none_left}
use Rattle.problems.specs.Rules.{counts, nodes_of}
use Rattle.refutations.proofs.grounds.exhaustion.dependency_needing.Given as goal

abbrev pub invariant-loop-place : goal.invariant-loop-place
invariant-loop-place l = l.earlier.hints ≡ None → list_any (λ wanted. counts l.problem.environment (option_copied l.extra) wanted && list_any (none_left l.problem l.earlier.conflicts.now l.conflict) (nodes_of wanted)) l.dependencies
    ≡ list_any (λ wanted. counts l.problem.environment (option_copied l.extra) wanted && list_any (none_left l.problem l.earlier.conflicts.now l.conflict) (nodes_of wanted)) (drop l.place l.dependencies)
